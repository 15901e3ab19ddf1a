use Rattle.std.proofs.Common.{length-append, ◌≡◌, ◌≤◌, ◌<◌, ◌+◌, ◌-◌, ℕ, List, [], ◌++◌, length, take, Some, None, Option, IfSome, refl, sym, ap, ◌∙◌, subst, arith, append_assoc, append-nil}
use Rattle.std.proofs.lemmas.List.{take_all, take-append-le, length-take-le}
use Rattle.std.proofs.lemmas.Slice.{take-put_mid_below}
use Rattle.std.proofs.Math.Seq.{take-append-add}
use borrow.Rule.Slice.PartMut.{post_of, put_mid}
use Rattle.std.specs.Io.KnownBytes.{Consumes, IsAtEnd}
use Rattle.check_listing.proofs.fill.Goals as goal

-- nothing is lost at first
none : (a : Option (List ℕ)) → Consumes a a []
none None = tt
none (Some xs) = refl

-- what is lost first, and then what is lost next
both : (a b c : Option (List ℕ)) (xs ys : List ℕ) → Consumes a b xs → Consumes b c ys → Consumes a c (xs ++ ys)
both None b c xs ys h k = tt
both (Some zs) (Some bs) (Some cs) xs ys h k = h ∙ ap (λ z. xs ++ z) k ∙ sym (append_assoc xs ys cs)
both (Some zs) (Some bs) None xs ys h k = absurd k
both (Some zs) None c xs ys h k = absurd h

-- nothing is left: what came is all that there was
all_came : (a b : Option (List ℕ)) (xs : List ℕ) (room : ℕ) → length xs ≤ room → Consumes a b xs → IsAtEnd b → IfSome a (λ bytes. xs ≡ take room bytes)
all_came None b xs room le h e = tt
all_came (Some zs) (Some bs) xs room le h e =
    let same : zs ≡ xs = h ∙ ap (λ z. xs ++ z) e ∙ append-nil xs in
    sym same ∙ sym (take_all room zs (subst (λ z. length z ≤ room) (sym same) le))
all_came (Some zs) None xs room le h e = absurd h

-- the room is full: what came is the front
full : (a b : Option (List ℕ)) (xs : List ℕ) (room : ℕ) → length xs ≡ room → Consumes a b xs → IfSome a (λ bytes. xs ≡ take room bytes)
full None b xs room le h = tt
full (Some zs) (Some bs) xs room le h = sym (ap (take room) h ∙ take-append-le room xs bs (omega (arith, le)) ∙ take_all room xs (omega (arith, le)))
full (Some zs) None xs room le h = absurd h

-- a part of the buffer is written after its front, and the first of that is kept
module _ (n k more : ℕ) (xs ys : List ℕ) (inside : n ≤ length xs) (enough : more ≤ length ys) where
  longer : n + more ≤ length (put_mid n k xs ys)
  longer = omega (arith, length-append (take n xs) (ys ++ post_of n k xs), length-append ys (post_of n k xs), length-take-le n xs inside)

  grown : take (n + more) (put_mid n k xs ys) ≡ take n xs ++ take more ys
  grown =
      ap (λ m. take (m + more) (put_mid n k xs ys)) (sym (length-take-le n xs inside))
      ∙ take-append-add (take n xs) (ys ++ post_of n k xs) more
      ∙ ap (λ z. take n xs ++ z) (take-append-le more ys (post_of n k xs) enough)

pub loop-n-init : goal.loop-n-init
loop-n-init g c = (omega arith, none (g.R.Read.remaining c.args.input.now))

pub loop-n-preserved : goal.loop-n-preserved
loop-n-preserved g c =
    let n = c.loop-n.n in
    let k = length c.loop-n.buffer - n in
    let more = c.in_ok-more.more in
    let inside = c.loop-n.invariant.0 in
    let enough = c.in_ok-more.ensures.bound.0 in
    let lost = both (g.R.Read.remaining c.args.input.now) (g.R.Read.remaining c.loop-n.input) (g.R.Read.remaining c.read.new.self) (take n c.loop-n.buffer) (take more c.read.new.buf)
    c.loop-n.invariant.1 c.in_ok-more.ensures.bytes.0 in (
      longer n k more c.loop-n.buffer c.read.new.buf inside enough,
      subst (Consumes (g.R.Read.remaining c.args.input.now) (g.R.Read.remaining c.read.new.self)) (sym (grown n k more c.loop-n.buffer c.read.new.buf inside enough)) lost,
    )

pub returns-after-loop-n-clause-count : goal.returns-after-loop-n-clause-count
returns-after-loop-n-clause-count g c = omega (arith, c.loop-n.invariant.0, c.loop-n.auto.buffer)

pub returns-after-loop-n-clause-bytes : goal.returns-after-loop-n-clause-bytes
returns-after-loop-n-clause-bytes g c =
    full (g.R.Read.remaining c.args.input.now) (g.R.Read.remaining c.loop-n.input) (take c.loop-n.n c.loop-n.buffer) (length c.args.buffer.now)
    (omega (arith, length-take-le c.loop-n.n c.loop-n.buffer c.loop-n.invariant.0, c.loop-n.invariant.0, c.loop-n-test.false, c.loop-n.auto.buffer)) c.loop-n.invariant.1

pub returns-then-more-eq0-clause-bytes : goal.returns-then-more-eq0-clause-bytes
returns-then-more-eq0-clause-bytes g c =
    let n = c.loop-n.n in
    let k = length c.loop-n.buffer - n in
    let inside = c.loop-n.invariant.0 in
    let came = take n c.loop-n.buffer in
    let room : 0 < length c.read.new.buf = omega (arith, c.read.auto.buf, c.loop-n-test.true) in
    let nothing : take c.in_ok-more.more c.read.new.buf ≡ [] = ap (λ m. take m c.read.new.buf) c.if-more-eq0.true in
    let lost = subst (Consumes (g.R.Read.remaining c.loop-n.input) (g.R.Read.remaining c.read.new.self)) nothing c.in_ok-more.ensures.bytes.0 in
    let whole = subst (Consumes (g.R.Read.remaining c.args.input.now) (g.R.Read.remaining c.read.new.self)) (append-nil came)
    (both (g.R.Read.remaining c.args.input.now) (g.R.Read.remaining c.loop-n.input) (g.R.Read.remaining c.read.new.self) came [] c.loop-n.invariant.1 lost) in
    let answer = all_came (g.R.Read.remaining c.args.input.now) (g.R.Read.remaining c.read.new.self) came (length c.args.buffer.now)
    (omega (arith, length-take-le n c.loop-n.buffer inside, inside, c.loop-n.auto.buffer)) whole (c.in_ok-more.ensures.bytes.1 c.if-more-eq0.true room) in
    subst (λ z. IfSome (g.R.Read.remaining c.args.input.now) (λ bytes. z ≡ take (length c.args.buffer.now) bytes)) (sym (take-put_mid_below n k c.loop-n.buffer c.read.new.buf n (omega arith) inside)) answer
