-- Which octets make a text, a UID and a stamp.
use Rattle.std.specs.Prelude.{ℕ, Bool, cond, not, ◌&&◌, ◌||◌, List, length, ◌==◌, nat_le}
use Rattle.std.specs.List.{list_all, enumerate_from}

abbrev pub text_limit : ℕ
text_limit = 60

abbrev pub uid_limit : ℕ
uid_limit = 64

-- 32 to 126, and 128 to 255
abbrev pub text_octet : ℕ → Bool
text_octet x = nat_le 128 x || (nat_le 32 x && nat_le x 126)

-- 33 to 126, without comma, semicolon, colon and backslash
abbrev pub uid_octet : ℕ → Bool
uid_octet x = (nat_le 33 x && nat_le x 126) && not (x == 44 || (x == 59 || (x == 58 || x == 92)))

abbrev pub every : (ℕ → Bool) → List ℕ → Bool
every p xs = list_all p xs

-- 1 to so many octets, each of which passes
abbrev pub bounded : ℕ → (ℕ → Bool) → List ℕ → Bool
bounded limit p xs = (nat_le 1 (length xs) && nat_le (length xs) limit) && every p xs

abbrev pub is_text : List ℕ → Bool
is_text xs = bounded text_limit text_octet xs

abbrev pub is_uid : List ℕ → Bool
is_uid xs = bounded uid_limit uid_octet xs

-- which octet may stand at a place of a stamp: T at 8, Z at 15, else a digit
abbrev pub stamp_octet : ℕ → ℕ → Bool
stamp_octet i x = cond (i == 8) (x == 84) (cond (i == 15) (x == 90) (nat_le 48 x && nat_le x 57))

abbrev pub every_at : (ℕ → ℕ → Bool) → ℕ → List ℕ → Bool
every_at p i xs = list_all (λ q. p q.0 q.1) (enumerate_from i xs)

-- eight digits, T, six digits, Z
abbrev pub is_stamp : List ℕ → Bool
is_stamp xs = length xs == 16 && every_at stamp_octet 0 xs
