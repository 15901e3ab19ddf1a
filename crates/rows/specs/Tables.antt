-- The three tables of a listing.
use Rattle.std.specs.Prelude.{List}
use Rattle.rows.specs.declared.types.TypeRow.{TypeRow}
use Rattle.rows.specs.declared.process.ProcessRow.{ProcessRow}
use Rattle.rows.specs.declared.term.TermRow.{TermRow}
use Rattle.rows.specs.declared.listing.Listing.{Listing}

pub record Tables : Type 0 where
  pub types : List TypeRow
  pub processes : List ProcessRow
  pub terms : List TermRow

-- what a lent listing holds
abbrev pub tables : Listing → Tables
tables l = record { types = l.types.now; processes = l.processes.now; terms = l.terms.now }
