-- Processes. Their rows stand in the order of the text.
use Rattle.std.specs.Prelude.{◌≡◌, ℕ, zero, suc, ◌-◌, List, [], codes}
use Rattle.words.specs.declared.token.Mark.TheVariants.{Close, Bar}
use Rattle.words.specs.declared.token.Span.{Span}
use Rattle.rows.specs.declared.process.ProcessKind.{ProcessKind}
use Rattle.rows.specs.declared.process.ProcessKind.TheVariants.{Stop, Out, In, New, Both, Again, If, Sopen, Aopen, Verify}
use Rattle.scanning.specs.declared.fault.ListingFault.TheVariants.{Limit}
use Rattle.scanning.specs.declared.scope.Scope.{Scope}
use Rattle.scanning.specs.Names.{InScope}
use Rattle.reader.specs.Cursor.{Reads, ◌>>=◌, done, fail}
use Rattle.reader.specs.Tokens.{beginning, mark, keyword}
use Rattle.reader.specs.Names.{all_bound, Older}
use Rattle.reader.specs.Rows.{open_row, finish}
use Rattle.reader.specs.Heads.{new_line, out_line, in_line, opening_line, branched, if_line}

-- how a process inside another is read, by the brackets and branches left and the names in scope
abbrev pub Inner : Type 0
Inner = ℕ → InScope → Reads ℕ

-- the process after the first line of a row, in whose scope the line's names are
unfoldable pub follow : ℕ → List Span → ℕ → InScope → Inner → Reads ℕ
follow row names allow sc inner = do
  p ← inner allow (all_bound names sc)
  finish row

-- two processes, both in the scope outside, what stands between them, and the `rest`
unfoldable pub two : Reads ℕ → Reads ℕ → ℕ → InScope → Inner → Reads ℕ
two middle rest allow sc inner = do
  p ← inner allow sc
  m ← middle
  q ← inner allow sc
  rest

abbrev pub closed : ℕ → Reads ℕ
closed row = do
  p ← mark Close
  finish row

-- `P | Q)`
unfoldable pub parallel : ℕ → ℕ → InScope → Inner → Reads ℕ
parallel row allow sc inner = two (mark Bar) (closed row) (allow - 1) sc inner

-- `P else Q`
unfoldable pub choice : ℕ → ℕ → InScope → Inner → Reads ℕ
choice row allow sc inner = two (keyword (codes "else")) (finish row) (allow - 1) sc inner

-- a process that opens a message
abbrev pub opens_message : ℕ → ℕ → InScope → Inner → Reads ℕ
opens_message i allow sc inner = do
  ns ← opening_line sc i
  follow i ns.items allow sc inner

-- what comes after the first token, which stands at `place`, where the process has the row i
abbrev pub begins : ProcessKind → ℕ → ℕ → InScope → Inner → ℕ → Reads ℕ
begins Stop i allow sc inner place = done i
begins New i allow sc inner place = do
  ns ← new_line sc i
  follow i ns.items allow sc inner
begins Out i allow sc inner place = do
  u ← out_line sc.names i
  follow i [] allow sc inner
begins In i allow sc inner place = do
  ns ← in_line sc i
  follow i ns.items allow sc inner
begins Again i allow sc inner place = follow i [] allow sc inner
begins Sopen i allow sc inner place = opens_message i allow sc inner
begins Aopen i allow sc inner place = opens_message i allow sc inner
begins Verify i allow sc inner place = opens_message i allow sc inner
begins Both i allow sc inner place = do
  u ← branched allow place
  parallel i allow sc inner
begins If i allow sc inner place = do
  u ← if_line sc.names allow i
  choice i allow sc inner

-- a row for the process, and what comes after its first token
abbrev pub opens : ℕ → ℕ → InScope → Inner → ProcessKind × Span → Reads ℕ
opens left allow sc inner p = do
  i ← open_row left p.0 sc.count p.1.start
  begins p.0 i allow sc inner p.1.start

abbrev pub process_by : ℕ → ℕ → InScope → Inner → Reads ℕ
process_by left allow sc inner = do
  p ← beginning
  opens left allow sc inner p

-- a process, whose rows may stand `left` deep, in which `allow` more brackets and branches may be opened
unfoldable pub process : ℕ → ℕ → InScope → Reads ℕ
process zero allow sc = process_by zero allow sc (λ a ns. fail (Limit 0))
process (suc d) allow sc = process_by (suc d) allow sc (process d)

-- what reads a process inside a row
unfoldable pub deeper : ℕ → Inner
deeper zero = λ a ns. fail (Limit 0)
deeper (suc d) = process d

-- that the names in scope are what they were: their count, and the names themselves
pub record Kept (after before : Scope) : Type 0 where
  pub count : after.count ≡ before.count
  pub older : Older after before
