use Rattle.std.proofs.Common.{◌≡◌, ◌≤◌, ℕ, List, ◌++◌, length, take, IfSome, sym, ◌∙◌, subst, arith}
use Rattle.std.proofs.lemmas.List.{take-take, take-append-le}
use Rattle.check_listing.proofs.read_input.Goals as goal

-- a front that lies in the first part
front : (n m : ℕ) (xs zs : List ℕ) → n ≤ m → n ≤ length xs → take n (take m (xs ++ zs)) ≡ take n xs
front n m xs zs p q = take-take n m (xs ++ zs) p ∙ take-append-le n xs zs q

pub returns-clause-bytes : goal.returns-clause-bytes
returns-clause-bytes g c =
    let room : length c.as_mut_slice.result.now ≡ 32769 = omega (arith, c.as_mut_slice.ensures.len, c.in_ok-text.ensures.len) in
    let inside : c.in_ok-n.n ≤ length c.fill.new.buffer = omega (arith, c.in_ok-n.ensures.count, c.fill.auto.buffer) in
    let kept : c.truncate.new.self.items ≡ take c.in_ok-n.n c.fill.new.buffer = c.truncate.ensures.items ∙ front c.in_ok-n.n _ c.fill.new.buffer _ (omega (arith, c.in_ok-n.ensures.count, c.as_mut_slice.ensures.len)) inside in
    subst (λ k. IfSome (g.R.Read.remaining c.args.input) (λ bytes. c.truncate.new.self.items ≡ take k bytes)) room
    (subst (λ z. IfSome (g.R.Read.remaining c.args.input) (λ bytes. z ≡ take (length c.as_mut_slice.result.now) bytes)) (sym kept) c.in_ok-n.ensures.bytes)
