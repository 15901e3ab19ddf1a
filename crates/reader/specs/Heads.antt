-- What processes begin with, after the first token: each up to where the next process stands.
use Rattle.std.specs.Prelude.{ℕ, cond, List, length, codes, ◌==◌, slice_index}
use Rattle.words.specs.declared.token.Mark.TheVariants.{Close, Dot, Colon, Equals}
use Rattle.words.specs.declared.token.Span.{Span}
use Rattle.scanning.specs.declared.fault.ListingFault.TheVariants.{Limit}
use Rattle.scanning.specs.Names.{InScope}
use Rattle.arrayvec.specs.ArrayVec.{ArrayVec}
use Rattle.reader.specs.declared.heads.Message.{Message}
use Rattle.reader.specs.declared.heads.Opening.{Opening}
use Rattle.reader.specs.declared.heads.Equation.{Equation}
use Rattle.reader.specs.Cursor.{Reads, ◌>>=◌, done, fail, doing}
use Rattle.reader.specs.Tokens.{mark, keyword}
use Rattle.reader.specs.Terms.{bracket, term, list}
use Rattle.reader.specs.Types.{type_named}
use Rattle.reader.specs.Names.{no_names, also, new_name, variables}
use Rattle.reader.specs.Rows.{operands, fill_row}

-- `: s .`: the type's row
unfoldable pub typed : Reads ℕ
typed = do
  c ← mark Colon
  t ← type_named
  d ← mark Dot
  done t.row

-- `a : s .`: the name
unfoldable pub new_line : InScope → ℕ → Reads (ArrayVec Span)
new_line sc row = do
  l ← new_name sc.count
  t ← typed
  u ← doing (fill_row row t 0 (operands 0 0 0 0 0))
  done (also no_names l)

-- `M (M, N)`
unfoldable pub message : List Span → Reads Message
message names = do
  c ← term 32 names
  left ← bracket 32
  ps ← list left names Close
  done (record { channel = c; parts = ps })

-- the channel and then the parts
abbrev pub sent : Message → List ℕ
sent m = operands m.channel (slice_index m.parts.at 0) (slice_index m.parts.at 1) (slice_index m.parts.at 2) (slice_index m.parts.at 3)

-- `M (M, N) .`
unfoldable pub out_line : List Span → ℕ → Reads (Unit {0})
out_line names row = do
  m ← message names
  u ← doing (fill_row row 0 m.parts.count (sent m))
  d ← mark Dot
  done tt

-- `M (a, b) .`: the variables
unfoldable pub in_line : InScope → ℕ → Reads (ArrayVec Span)
in_line sc row = do
  c ← term 32 sc.names
  ns ← variables sc.count
  u ← doing (fill_row row 0 (length ns.items) (operands c 0 0 0 0))
  d ← mark Dot
  done ns

-- `as (a, b)`
unfoldable pub opened_names : ℕ → Reads (ArrayVec Span)
opened_names slots = do
  p ← keyword (codes "as")
  variables slots

-- `with K`
unfoldable pub opening_key : List Span → Reads ℕ
opening_key names = do
  p ← keyword (codes "with")
  term 32 names

-- `M as (a, b) with K`: the key is read in the scope outside
unfoldable pub opening : InScope → Reads Opening
opening sc = do
  m ← term 32 sc.names
  ns ← opened_names sc.count
  k ← opening_key sc.names
  done (record { message = m; names = ns; key = k })

-- `M as (a, b) with K .`: the variables
unfoldable pub opening_line : InScope → ℕ → Reads (ArrayVec Span)
opening_line sc row = do
  o ← opening sc
  u ← doing (fill_row row 0 (length o.names.items) (operands o.message o.key 0 0 0))
  d ← mark Dot
  done o.names

-- a bracket or a branch at a place, where `allow` more may be opened
abbrev pub branched : ℕ → ℕ → Reads (Unit {0})
branched allow place = cond (allow == 0) (fail (Limit place)) (done tt)

-- `M = N`
unfoldable pub equation : List Span → Reads Equation
equation names = do
  a ← term 32 names
  p ← mark Equals
  b ← term 32 names
  done (record { left = a; right = b })

-- `M = N then`
unfoldable pub if_line : List Span → ℕ → ℕ → Reads (Unit {0})
if_line names allow row = do
  e ← equation names
  u ← doing (fill_row row 0 0 (operands e.left e.right 0 0 0))
  p ← keyword (codes "then")
  branched allow p
