-- The shape of a listing's tables, by number, lowest row first.
use Rattle.std.specs.Prelude.{Bool, cond, ◌&&◌, length, Ok, Err, nat_le, nat_lt}
use Rattle.levels.specs.Meaning.{Meaning}
use Rattle.rows.specs.Tables.{Tables}
use Rattle.shape.specs.declared.fault.ShapeFault.{ShapeFault}
use Rattle.shape.specs.declared.fault.ShapeFault.TheVariants.{Size}
use Rattle.shape.specs.First.{Passes, first_of}
use Rattle.shape.specs.Types.{types_shape}
use Rattle.shape.specs.Processes.{processes_shape}
use Rattle.shape.specs.Terms.{terms_shape}
use Rattle.shape.specs.Depth.{depth_shape}

-- 1 to 64 types, 1 to 512 process rows and at most 2,048 term rows
abbrev pub sized : Tables → Bool
sized T =
    nat_lt 0 (length T.types) && (nat_le (length T.types) 64
    && (nat_lt 0 (length T.processes) && (nat_le (length T.processes) 512
    && nat_le (length T.terms) 2048)))

unfoldable pub shape : Meaning → Tables → Passes ShapeFault
shape m T =
    first_of (cond (sized T) (Ok tt) (Err Size))
    (first_of (types_shape m T.types)
    (first_of (processes_shape T)
    (first_of (terms_shape T.terms T.processes)
    (depth_shape T.processes))))
