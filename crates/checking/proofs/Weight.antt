-- A number that falls with each turn of the walk: the digits of where it stands, the outermost aopen first.
use Rattle.std.proofs.Common.{◌≡◌, ℕ, suc, ◌+◌, ◌-◌, ◌*◌, ◌^◌, ◌<◌, ◌≤◌, Bool, true, false, List, [], ◌∷◌, length, ap, ◌∙◌, mul-le-mul_right, mul_comm, add-mul, mul-lt-mul_of_pos_right, pow-suc, arith}
use native.Mathlib.Nat.{one-le-pow}
use Rattle.checking.proofs.Entries.{Entry, due, last, entry}

abbrev base : ℕ → ℕ
base n = 3 * n + 3

abbrev scale : ℕ → List Entry → ℕ
scale n es = base n ^ (6 - length es)

-- about to read row i
abbrev here : ℕ → ℕ → ℕ
here n i = 3 * (n - i) + 2

-- inside an aopen
abbrev inside : ℕ → Entry → ℕ
inside n (due t) = 3 * (n - t) + 1
inside n (last t) = 3 * (n - t)

abbrev held_weight : ℕ → List Entry → ℕ
held_weight n [] = 0
held_weight n (e ∷ es) = inside n e * scale n es + held_weight n es

abbrev pub weight : ℕ → ℕ → List Entry → ℕ
weight n i es = here n i * scale n es + held_weight n es

scale_pos : (n : ℕ) (es : List Entry) → 0 < scale n es
scale_pos n es = one-le-pow (6 - length es) (base n) (omega arith)

less_times : (x y w : ℕ) → x < y → 0 < w → x * w < y * w
less_times x y w h p = mul-lt-mul_of_pos_right h p

scale_more : (n : ℕ) (e : Entry) (es : List Entry) → length es < 6 → scale n es ≡ scale n (e ∷ es) * base n
scale_more n e es h =
    let k : 6 - length es ≡ suc (6 - suc (length es)) = omega arith in
    ap (λ j. base n ^ j) k ∙ pow-suc (base n) (6 - suc (length es))

-- a place one deeper weighs less than one step of the digit above it
deeper : (n i : ℕ) (e : Entry) (es : List Entry) → length es < 6 → here n i * scale n (e ∷ es) < scale n es
deeper n i e es few =
    omega (arith, less_times (here n i) (base n) (scale n (e ∷ es)) (omega arith) (scale_pos n (e ∷ es)), mul_comm (base n) (scale n (e ∷ es)), scale_more n e es few)

digit_falls : (x y w : ℕ) → x < y → x * w + w ≤ y * w
digit_falls x y w h =
    let a : x + 1 ≤ y = omega arith in
    omega (arith, mul-le-mul_right w a, add-mul x 1 w)

pub weight_falls : (n i : ℕ) (es : List Entry) → i < n → weight n (i + 1) es < weight n i es
weight_falls n i es h = omega (arith, less_times (here n (i + 1)) (here n i) (scale n es) (omega arith) (scale_pos n es))

pushes : (n i : ℕ) (e : Entry) (es : List Entry) → length es < 6 → inside n e < here n i → weight n (i + 1) (e ∷ es) < weight n i es
pushes n i e es few h = omega (arith, deeper n (i + 1) e es few, digit_falls (inside n e) (here n i) (scale n es) h)

pub weight_pushes : (n i : ℕ) (b : Bool) (es : List Entry) → length es < 6 → weight n (i + 1) (entry b i ∷ es) < weight n i es
weight_pushes n i true es few = pushes n i (due i) es few (omega arith)
weight_pushes n i false es few = pushes n i (last i) es few (omega arith)

pub weight_again : (n i t : ℕ) (es : List Entry) → length es < 6 → t < n → weight n (t + 1) (last t ∷ es) < weight n i (due t ∷ es)
weight_again n i t es few h =
    omega (arith, deeper n (t + 1) (last t) es few, digit_falls (inside n (last t)) (inside n (due t)) (scale n es) (omega arith))

pub weight_back : (n i t : ℕ) (es : List Entry) → t < i → t < n → weight n i es < weight n i (last t ∷ es)
weight_back n i t es h k =
    omega (arith, less_times (here n i) (inside n (last t)) (scale n es) (omega arith) (scale_pos n es), scale_pos n (last t ∷ es))
