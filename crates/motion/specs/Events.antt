-- What the history of the exact position records: 01, "How tight the contracts must be": starts with their places, and volumes with their C.
use Rattle.std.specs.Prelude.{ℕ, Bool, List, [], ◌∷◌}
use Rattle.settings.specs.declared.Volume.{Volume}

-- a starting point, in millionths of an increment; a volume at C, aspirated (true) or dispensed
pub data Event : Type 0 where
  start : ℕ → Event
  volume : Volume → ℕ → Bool → Event

-- what comes next, and what it adds to the history
pub record Turn (A : Type 0) : Type 0 where
  pub next : A
  pub events : List Event

abbrev pub quiet : {A : Type 0} → A → Turn A
quiet a = record { next = a; events = [] }

abbrev pub told : {A : Type 0} → Event → A → Turn A
told e a = record { next = a; events = e ∷ [] }
