-- The cases compute.
use Rattle.std.proofs.Common.{refl}
use Rattle.std.specs.Fmt.{digits}
use Rattle.shape.specs.Whole.{shape}
use Rattle.checking.specs.Verdict.{check_from}
use Rattle.reader.specs.Tokens.{ahead, comma, binder, heading, beginning}
use Rattle.reader.specs.Lists.{series}
use Rattle.reader.specs.Terms.{put, term}
use Rattle.reader.specs.Types.{type_named, payload_type, payload, kind, parts_of, described, add_type, share, new_type, declaration, declarations}
use Rattle.reader.specs.Names.{new_name, free_name, one_too_many, header}
use Rattle.reader.specs.Rows.{open_row, fill_row, close_row}
use Rattle.reader.specs.Heads.{typed, new_line, message, out_line}
use Rattle.reader.specs.Processes.{follow, process}
use Rattle.reader.specs.Whole.{types_read, body, whole, listing}
use Rattle.cases.specs.Cases.{MarkedCases}

pub marked_cases : MarkedCases
unfolding digits shape check_from ahead comma series put term type_named payload_type payload kind parts_of described add_type share new_type declaration declarations new_name free_name one_too_many header open_row fill_row close_row typed new_line message out_line follow process types_read body whole listing binder heading beginning
marked_cases =
    record {
      four_levels = (refl, refl, refl);
      three_parties = (refl, refl, refl);
      signature_by_payload = (refl, refl, refl);
      encryption_by_payload = (refl, refl);
      encrypted_secret_is_accepted = (refl, refl);
      published_secret_is_refused = (refl, refl);
      another_count_is_refused = refl;
      another_kind_is_refused = refl;
      secret_under_any_key_is_refused = refl;
      trusted_plaintext_is_refused = refl;
    }
