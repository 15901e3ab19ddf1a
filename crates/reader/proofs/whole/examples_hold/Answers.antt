use Rattle.std.proofs.Common.{refl}
use Rattle.reader.specs.Tokens.{ahead, comma, heading, beginning, binder}
use Rattle.reader.specs.Lists.{series}
use Rattle.reader.specs.Terms.{put, fifth_term, term}
use Rattle.reader.specs.Types.{type_named, payload_type, fifth_type, payload, kind, parts_of, described, add_type, share, new_type, declaration, declarations}
use Rattle.reader.specs.Names.{new_name, fifth_name, name_list, variables, free_name, one_too_many, header}
use Rattle.reader.specs.Rows.{open_row, fill_row, close_row}
use Rattle.reader.specs.Heads.{typed, new_line, message, out_line, in_line, opened_names, opening_key, opening, opening_line, equation, if_line}
use Rattle.reader.specs.Processes.{follow, two, parallel, choice, process, deeper}
use Rattle.reader.specs.Whole.{types_read, body, whole, listing}
use Rattle.reader.proofs.whole.examples_hold.Goals as goal

pub returns-clause-hold : goal.returns-clause-hold
unfolding ahead comma heading beginning binder series put fifth_term term type_named payload_type fifth_type payload kind parts_of described add_type share new_type declaration declarations new_name fifth_name name_list variables free_name one_too_many header open_row fill_row close_row typed new_line message out_line in_line opened_names opening_key opening opening_line equation if_line follow two parallel choice process deeper types_read body whole listing
returns-clause-hold c =
    record {
      read = record { sends = refl; opens = refl; shares = refl; hides = refl };
      refused = record { strange = refl; long = refl; empty = refl; early_end = refl; after = refl; free_twice = refl; type_twice = refl; no_payload = refl; plain_payload = refl; no_parts = refl; no_name = refl; own_word = refl; unknown = refl; unscoped = refl; outside = refl; five = refl; five_unknown = refl; five_types = refl; types_full = refl; rows_full = refl; deep_term = refl; deep_bracket = refl; deep_branch = refl };
    }
