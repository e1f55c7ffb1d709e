-- The forms of lines, each told apart from how it is read.
use Rattle.std.specs.Prelude.{ℕ, ◌≤◌, ◌<◌, ◌≡◌, Bool, true, List, ◌++◌, ltb, length, get_or}
use Rattle.basics.specs.Bytes.{chars, zero_digit, digit, every, value_of}
use Rattle.line.specs.Bytes.{printable}
use Rattle.desk.specs.declared.Desk.{Desk}
use Rattle.desk.specs.declared.Quantity.{Quantity}
use Rattle.desk.specs.declared.Word.TheVariants.{Number, Stop, Raw}
use Rattle.desk.specs.Desk.{spelled, knows, least_of, most_of}
use Rattle.desk.specs.Hex.{hex_of}

-- "A line over 400 bytes, with a byte outside 20h to 7Eh .. prints `?`."
pub record Clean (t : List ℕ) : Type 0 where
  pub short : length t ≤ 400
  pub bytes : every printable t ≡ true

-- "`> ` and text", at both
pub record Sends (t : List ℕ) : Type 0 where
  pub clean : Clean t
  pub text : List ℕ
  pub form : t ≡ chars "> " ++ text

-- a number: "no leading zero"; "at most 6 digits"
pub record Counts (digits : List ℕ) (n : ℕ) : Type 0 where
  pub digits_only : every digit digits ≡ true
  pub some : 0 < length digits
  pub few : length digits ≤ 6
  pub no_leading_zero : get_or digits 0 0 ≡ zero_digit → length digits ≡ 1
  pub number : value_of digits ≡ n

-- `t n`, at both; `run n`, `lend n`, `new n`, `oem n`, `tip n`, `press n`, n from 0 on, and `press -n`, n from 1 on, at the rig: a number in its range
pub record Gives (desk : Desk) (t : List ℕ) (q : Quantity) (n : ℕ) : Type 0 where
  pub known : knows desk (Number q) ≡ true
  pub clean : Clean t
  pub digits : List ℕ
  pub form : t ≡ spelled (Number q) ++ digits
  pub counts : Counts digits n
  pub least : least_of q ≤ n
  pub most : n ≤ most_of q

-- `stop`, at the rig
pub record Stops (desk : Desk) (t : List ℕ) : Type 0 where
  pub known : knows desk Stop ≡ true
  pub clean : Clean t
  pub form : t ≡ chars "stop"

-- a byte
abbrev pub small : ℕ → Bool
small b = ltb b 256

-- `x HH HH ..`, at the rig: bytes, one at least
pub record Raws (desk : Desk) (t : List ℕ) : Type 0 where
  pub known : knows desk Raw ≡ true
  pub clean : Clean t
  pub bytes : List ℕ
  pub form : t ≡ chars "x " ++ hex_of bytes
  pub some : 0 < length bytes
  pub bytes_only : every small bytes ≡ true
