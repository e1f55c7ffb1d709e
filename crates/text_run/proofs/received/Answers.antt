use Rattle.std.proofs.Common.{◌≡◌, ap, ◌∙◌, List, ℕ, ◌≤◌, ◌<◌, length}
use lib.ListN.{take}
use Rattle.basics.proofs.Lists.{front_counted}
use Rattle.basics.proofs.Rules.{tests}
use Rattle.text.specs.declared.Data.{Data}
use Rattle.text.specs.declared.Data.TheVariants as D
use Rattle.text.specs.Data.{Squeezed, data_of, received_of}
use Rattle.text.proofs.Spaces.{squeezed_in_front, squeezed_fits}
use Rattle.text_run.proofs.received.Goals as goal

too_long : (t : List ℕ) → 320 < length t → D.TooLong ≡ received_of t
unfolding received_of
too_long t h = simp tests

read : (t : List ℕ) (n : ℕ) (after : List ℕ) (r : Data) → length t ≤ 320 → Squeezed t n after → r ≡ data_of (take n after) → r ≡ received_of t
unfolding received_of
read t n after r h s e = simp tests (e ∙ ap data_of (squeezed_in_front t n after s))

pub returns-then-t-gt320 : goal.returns-then-t-gt320
returns-then-t-gt320 c = too_long _ c.if-t-gt320.true

pub slice_bounds-read-end : goal.slice_bounds-read-end
slice_bounds-read-end c = squeezed_fits _ _ _ c.squeeze-n.ensures

pub slice_bounds-read-end-2 : goal.slice_bounds-read-end-2
slice_bounds-read-end-2 c = front_counted _ _ (squeezed_fits _ _ _ c.squeeze-n.ensures)

pub returns : goal.returns
returns c = read _ _ _ _ c.if-t-gt320.false c.squeeze-n.ensures c.read.ensures
