-- Laws of `specs/Byte`: lengths along the way of a byte, and its two returns.
use mathlib.Core.Path.{◌≡◌, refl, sym}
use mathlib.Core.Bool.{Bool}
use mathlib.Core.List.{List}
use Prim.Native.Nat.{ℕ, ◌≤◌, ◌<◌}
use native.Mathlib.Omega.{arith}
use borrow.Author.Tests.{lt-ltb, le-ltb}
use lib.Dec.{ltb, eqb}
use lib.ListN.{length, take, length-set, length-take}
use lib.Seq.{length-take-le}
use Rattle.std.specs.Prelude.{Err, Option, Some}
use Rattle.pipettor.specs.Said.{Said, s1}
use Rattle.line.specs.declared.Report.{Report}
use Rattle.basics.proofs.Over.{length_over}
use Rattle.basics.proofs.Choice.{by}
use Rattle.text.specs.declared.Data.{Data}
use Rattle.text.specs.declared.Data.TheVariants as D
use Rattle.text.specs.Data.{spaceless, data_of}
use Rattle.text.proofs.Squeezing.{spaceless_short}
use Rattle.text.proofs.Strings.{a_text_stands_in_front}
use Rattle.line.specs.declared.Deed.{Deed}
use Rattle.line.specs.declared.Deed.TheVariants as W
use Rattle.line.specs.declared.Heard.{Heard}
use Rattle.line.specs.declared.Line.{Line}
use Rattle.line.specs.declared.Framing.{Framing}
use Rattle.line.specs.Wire.{framing_of, hear_of, keep_of}
use Rattle.machine.specs.declared.step.Core.{Core}
use Rattle.machine.specs.declared.act.Done.{Done}
use Rattle.machine.specs.Valid.{Valid}
use Rattle.reports.specs.Reports.{Tellable}
use Rattle.machine.specs.Act.{acted}
use Rattle.machine.specs.Run.{ready_of}
use Rattle.machine.specs.Device.{device}
use Rattle.pipettor.specs.declared.acting.Task.{Task}
use Rattle.pipettor.specs.declared.Controller.{Controller}
use Rattle.pipettor.specs.Address.{letter_of}
use Rattle.pipettor.specs.Byte.{fetched_of, squeezed_in, got_of, squeezed_of, Gotten, task_of, size_of, performed_of, outcome_of, Spoken, dealt_of, after, reply, heard_of, byte_of}

-- the frame keeps its length
pub kept_length : (f : List ℕ) (d : Deed) (b : ℕ) → length (keep_of f d b) ≡ length f
unfolding keep_of
kept_length f W.Nothing b = refl
kept_length f (W.Keep at) b = length-set f at b
kept_length f (W.Frame a n) b = refl

part_short : (n : ℕ) (f : List ℕ) → length (spaceless (take n f)) ≤ length f
part_short n f = omega (arith, spaceless_short (take n f), length-take n f)

pub squeezed_length : (ours : ℕ) (d : Deed) (f : List ℕ) → length (squeezed_of ours d f) ≡ length f
unfolding squeezed_of squeezed_in
squeezed_length ours W.Nothing f = refl
squeezed_length ours (W.Keep at) f = refl
squeezed_length ours (W.Frame a n) f =
    by (λ (x : List ℕ). length x ≡ length f) (eqb a ours)
    (λ _. by (λ (x : List ℕ). length x ≡ length f) (ltb 320 n) (λ _. refl) (λ _. length_over (spaceless (take n f)) 0 f (omega (arith, part_short n f))))
    (λ _. refl)

-- a text is no longer than the frame that brought it
data_size : (t : List ℕ) (d : Data) → data_of t ≡ d → size_of (Some d) ≤ length t
data_size t (D.Report q) e = omega arith
data_size t D.WrongReport e = omega arith
data_size t (D.Control c) e = omega arith
data_size t (D.Text n run) e = (a_text_stands_in_front n run t e).short
data_size t (D.Wrong r) e = omega arith
data_size t D.TooLong e = omega arith

pub got_size : (ours : ℕ) (d : Deed) (f : List ℕ) → size_of (got_of ours d f) ≤ length f
unfolding got_of fetched_of
got_size ours W.Nothing f = omega arith
got_size ours (W.Keep at) f = omega arith
got_size ours (W.Frame a n) f =
    by (λ (g : Option Data). size_of g ≤ length f) (eqb a ours)
    (λ _.
    by (λ (g : Option Data). size_of g ≤ length f) (ltb 320 n) (λ _. omega arith)
    (λ _. let h = data_size (spaceless (take n f)) _ refl in omega (arith, h, part_short n f)))
    (λ _. omega arith)

module _ (ours : ℕ) (d : Deed) (f : List ℕ) (got : Option Data) (g : List ℕ) (n : ℕ) where
  pub part_fits : length f ≡ 320 → Gotten ours d f got g → n ≡ size_of got → n ≤ length g
  part_fits l e size = let w = squeezed_length ours d f in rw (size, e.got, e.left, w) (got_size ours d f)

pub tellable : (c : Core) → Valid c → Tellable c.body c.course
tellable c v = record { body = v.body; error = v.course.error }

-- the first bytes of a list
pub part_count : (n : ℕ) (l : List ℕ) → n ≤ length l → n ≡ length (take n l)
part_count n l h = sym (length-take-le n l h)

module _ (k : Controller) (b : ℕ) where
  pub short : (buf : List ℕ) → length buf < 32 → after (reply k (Err s1)) buf ≡ (byte_of k b buf).next
  unfolding byte_of
  short buf h = rw (lt-ltb (length buf) 32 h)

  pub heard :
      (buf buf' : List ℕ) (h : Heard Line) (frame squeezed text : List ℕ) (got : Option Data) (task : Task) (n : ℕ) (o : Option (Report × ℕ)) (r : Done) (ready : Bool) (s : Said) (ours : ℕ) (f : Framing) →
      32 ≤ length buf → ours ≡ letter_of k.address → h ≡ hear_of k.line b → frame ≡ keep_of k.frame h.deed b → Gotten ours h.deed frame got squeezed →
      task ≡ task_of got → n ≡ size_of got → ((tip : Bool) → acted text tip r.core r.verdict ≡ (performed_of task (take n squeezed) (device k.device.text tip k.device.core)).next) →
      o ≡ outcome_of got k.address r.verdict k.device.tip k.device.core → ready ≡ ready_of r.core → f ≡ framing_of k.line → Spoken f o ready buf s buf' →
      after (reply (record { address = k.address; line = h.line; frame = squeezed; device = device text k.device.tip r.core }) s) buf' ≡ (byte_of k b buf).next
  unfolding byte_of heard_of dealt_of
  heard buf buf' h frame squeezed text got task n o r ready s ours f l e0 e1 e2 e3 e4 e5 e6 e7 e8 ef e9 =
      let told : Spoken (framing_of k.line) (outcome_of got k.address r.verdict k.device.tip k.device.core) (ready_of r.core) buf s buf' = rw (e7, e8, ef) at e9 in
      simp (le-ltb (length buf) 32 l, ← e0, ← e1, ← e2, ← e3.got, ← e3.left, ← e4, ← e5, ← e6 k.device.tip, told.said, told.left)
