-- 01, "The bench program": "It reads lines, ended by LF or the input's end"; the rig too. What the bytes of the input do and print, how the program keeps them, and what it comes to.
use Rattle.std.specs.Prelude.{ℕ, ◌+◌, ◌*◌, ◌≤◌, ◌≡◌, Bool, true, not, ◌||◌, List, [], ◌∷◌, ◌++◌, eqb, leb, ltb, Option, Result, Ok, Err, length, take, if◌then◌else◌}
use Rattle.std.specs.Io.KnownBytes.{Appends, Consumes, IsAtEnd}
use Rattle.desk.specs.declared.Desk.{Desk}
use Rattle.station.specs.declared.Station.{Station}
use Rattle.station.specs.Serve.{at_start, served_of}
use Rattle.console.specs.declared.End.{End}
use Rattle.console.specs.declared.Memory.{Memory}

-- the program between two bytes: its station, the bytes since the last LF, and what it has printed
pub record Program : Type 0 where
  pub station : Station
  pub kept : List ℕ
  pub printed : List ℕ

abbrev pub program : Station → List ℕ → List ℕ → Program
program s kept printed = record { station = s; kept = kept; printed = printed }

-- more bytes of a line
abbrev pub longer : List ℕ → Program → Program
longer more p = program p.station (p.kept ++ more) p.printed

-- what is kept is a line, if it has ended
abbrev pub ended_line : Bool → Program → Program
ended_line ended p = if ended then (let line = served_of p.kept p.station in program line.station [] (p.printed ++ line.text)) else p

-- a line is served as soon as it is complete
unfoldable pub eaten_of : List ℕ → Program → Program
eaten_of [] p = p
eaten_of (b ∷ t) p = eaten_of t (if eqb b 10 then ended_line true p else longer (b ∷ []) p)

-- "or the input's end (nothing after the last LF is no line)"
abbrev pub last_of : Program → Program
last_of p = ended_line (ltb 0 (length p.kept)) p

-- "Address 1."
abbrev pub opened : Desk → Program
opened desk = program (at_start desk) [] []

-- the program after this input, which may be over
unfoldable pub program_of : Desk → Bool → List ℕ → Program
program_of desk over input = let p = eaten_of input (opened desk) in if over then last_of p else p

-- what a read brought, by its answer and what then stands in the array; nothing is the input's end
unfoldable pub brought : {E : Type 0} → Result ℕ E → List ℕ → List ℕ
brought (Ok n) chunk = take n chunk
brought (Err e) chunk = []

abbrev pub nothing : List ℕ → Bool
nothing bytes = eqb (length bytes) 0

unfoldable pub read_of : List ℕ → Program → Program
read_of bytes p = if nothing bytes then last_of p else eaten_of bytes p

-- of a line, what is kept: all of one of up to 400 bytes, and 401 bytes of a longer one, which tell that it is longer
abbrev pub begun : List ℕ → List ℕ
begun kept = take 401 kept

-- the program's memory: a station, what is kept of a line, and the bytes to be written
abbrev pub memory : Station → List ℕ → List ℕ → Memory
memory s line out = record { station = s; line = line; out = out }

-- the same with nothing to be written
abbrev pub emptied : Memory → Memory
emptied a = memory a.station a.line []

-- one that the program can come to
abbrev pub Sound : Memory → Type 0
Sound a = length a.line ≤ 401

-- one that stands for the program
pub record Stands (p : Program) (a : Memory) : Type 0 where
  pub station : a.station ≡ p.station
  pub keeps : a.line ≡ begun p.kept
  pub printed : a.out ≡ p.printed

-- the memory after bytes of the input, or after a line's end
pub record Eats (next : Program → Program) (a b : Memory) : Type 0 where
  pub sound : Sound b
  pub stands : (p : Program) → Stands p a → Stands (next p) b

-- a line's end, and the room that it takes: 80 bytes for each of the line and its LF, at most
pub record Finishes (ended : Bool) (a b : Memory) : Type 0 where
  pub eats : Eats (ended_line ended) a b
  pub room : length b.out + 80 * length b.line ≤ length a.out + 80 * (length a.line + 1)

-- after a read, and whether the input is over
pub record Reads (bytes : List ℕ) (a b : Memory) (over : Bool) : Type 0 where
  pub eats : Eats (read_of bytes) a b
  pub last : over ≡ nothing bytes

-- the next read: what it brings is what the reader had next, where that is known; one that goes well brings nothing only where nothing is left
pub record SomeRead (rest rest' : Option (List ℕ)) (a b : Memory) (over read : Bool) : Type 0 where
  pub bytes : List ℕ
  pub reads : Reads bytes a b over
  pub consumed : Consumes rest rest' bytes
  pub whole : over ≡ true → read ≡ true → IsAtEnd rest'

-- it ends with its input, or where a write has failed
abbrev pub ends : Bool → Bool → Bool
ends over wrote = over || not wrote

-- the program has ended, for that reason or after 2^64 - 1 reads, each of which brought a byte at least; the bytes that the reader has left and those that the writer holds, before and after, where they are known
pub record Ended (desk : Desk) (rest rest' held held' : Option (List ℕ)) (r : End) : Type 0 where
  pub input : List ℕ
  pub station : r.station ≡ (program_of desk r.over input).station
  pub reads : r.reads ≤ length input
  pub reason : (ends r.over r.wrote || leb 18446744073709551615 r.reads) ≡ true
  pub consumed : Consumes rest rest' input
  pub whole : r.over ≡ true → r.read ≡ true → IsAtEnd rest'
  pub written : r.wrote ≡ true → Appends held held' (program_of desk r.over input).printed

-- the whole input was read, and all that it prints was written
pub record Succeeded (r : End) : Type 0 where
  pub over : r.over ≡ true
  pub read : r.read ≡ true
  pub wrote : r.wrote ≡ true
