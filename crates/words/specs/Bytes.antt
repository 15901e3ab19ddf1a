-- The classes of bytes.
use Rattle.std.specs.Prelude.{ℕ, Bool, cond, ◌&&◌, ◌||◌, ◌==◌, nat_le}
use Rattle.words.specs.declared.token.Mark.TheVariants.{Open, Close, Semicolon, Comma, Dot, Colon, Bar, Bang, Equals}
use Rattle.words.specs.declared.bytes.Class.{Class}
use Rattle.words.specs.declared.bytes.Class.TheVariants.{Separator, Letter, Digit, Single, Other}

abbrev pub within : ℕ → ℕ → ℕ → Bool
within lo hi b = nat_le lo b && nat_le b hi

-- the class of a byte
abbrev pub class : ℕ → Class
class b =
    cond (within 97 122 b || within 65 90 b) Letter
    (cond (within 48 57 b) Digit
    (cond (b == 9 || b == 10 || b == 13 || b == 32) Separator
    (cond (b == 40) (Single Open)
    (cond (b == 41) (Single Close)
    (cond (b == 59) (Single Semicolon)
    (cond (b == 44) (Single Comma)
    (cond (b == 46) (Single Dot)
    (cond (b == 58) (Single Colon)
    (cond (b == 124) (Single Bar)
    (cond (b == 33) (Single Bang)
    (cond (b == 61) (Single Equals) Other)))))))))))
