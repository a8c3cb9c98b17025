-- Numbers as digits write them.
use Rattle.std.specs.Prelude.{ℕ, ◌+◌, ◌*◌, ◌^◌, Bool, true, cond, ◌&&◌, List, [], ◌∷◌, length, Some, None, Option, nat_le, nat_lt}
use Rattle.std.specs.Str.Parse.{digits_value}
use Rattle.std.specs.Char.{digit_value}

-- the number n with one more digit, below 2^64
abbrev pub with_digit : ℕ → ℕ → ℕ → Option ℕ
with_digit base n c =
    cond (nat_lt (digit_value c) base && nat_lt (n * base + digit_value c) (2 ^ 64)) (Some (n * base + digit_value c)) None

-- each byte is a digit of the base: 0 to 9, then letters of either case
abbrev pub digits_in : ℕ → List ℕ → Bool
digits_in base [] = true
digits_in base (c ∷ cs) = nat_lt (digit_value c) base && digits_in base cs

-- the number that the bytes write, if they are one digit or more and nothing else
abbrev pub number_in : ℕ → List ℕ → Option ℕ
number_in base cs = cond (nat_lt 0 (length cs) && digits_in base cs) (Some (digits_value base cs)) None

-- a number below a limit
abbrev pub under : ℕ → Option ℕ → Option ℕ
under limit None = None
under limit (Some n) = cond (nat_lt n limit) (Some n) None

abbrev pub decimal_of : List ℕ → Option ℕ
decimal_of cs = under (2 ^ 64) (number_in 10 cs)

-- one to four hexadecimal digits
abbrev pub hex_of : List ℕ → Option ℕ
hex_of cs = cond (nat_le (length cs) 4) (number_in 16 cs) None
