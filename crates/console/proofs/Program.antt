-- Laws of `specs/Eaten`: that chunks don't matter, the input's end, a read, and the whole program.
use mathlib.Core.Path.{◌≡◌, refl, sym, ap, ◌∙◌}
use mathlib.Core.Bool.{Bool, true, false, ◌||◌}
use mathlib.Core.List.{List, [], ◌∷◌, ◌++◌, append-nil, append_assoc}
use Prim.Native.Nat.{ℕ, ◌+◌, ◌≤◌}
use native.Mathlib.Omega.{arith}
use borrow.Author.Tests.{eqb-true, eqb-false, le-leb}
use lib.Dec.{eqb, leb, ltb}
use lib.ListN.{length, take, length-append, length-take}
use Rattle.std.proofs.Common.{◌<◌, min, Option, Some, None, Result, Ok, Err, is_ok, OnOk, IfSome}
use Rattle.std.proofs.lemmas.List.{take_min}
use Rattle.std.specs.Io.KnownBytes.{Keeps as KeepsBytes, Appends, Consumes, IsAtEnd, ReadConsumes}
use Rattle.std.specs.Io.{ReadsAtMost}
use Rattle.std.specs.Prelude.{if◌then◌else◌}
use Rattle.basics.proofs.Rules.{by_order}
use Rattle.desk.specs.declared.Desk.{Desk}
use Rattle.station.specs.declared.Station.{Station}
use Rattle.console.specs.declared.End.{End}
use Rattle.station.specs.Serve.{at_start, served_of}
use Rattle.console.specs.declared.Memory.{Memory}
use Rattle.console.specs.Eaten.{Program, program, longer, ended_line, eaten_of, last_of, opened, program_of, brought, nothing, read_of, begun, memory, Sound, Stands, Eats, Finishes, SomeRead, ends, Ended, Succeeded}

-- Input in any chunks does what it does at once.
pub in_any_chunks : (xs ys : List ℕ) (s : Program) → eaten_of (xs ++ ys) s ≡ eaten_of ys (eaten_of xs s)
unfolding eaten_of
in_any_chunks [] ys s = refl
in_any_chunks (b ∷ xs) ys s = in_any_chunks xs ys _

-- the same after something else was printed
abbrev behind : List ℕ → Program → Program
behind before s = program s.station s.kept (before ++ s.printed)

eats_behind : (t before : List ℕ) (s : Program) → eaten_of t (behind before s) ≡ behind before (eaten_of t s)
unfolding eaten_of
eats_behind [] before s = refl
eats_behind (b ∷ t) before s = go (eqb b 10) (eats_behind t before)
  where
    go : (x : Bool) → ((u : Program) → eaten_of t (behind before u) ≡ behind before (eaten_of t u)) →
        eaten_of t (if x then ended_line true (behind before s) else longer (b ∷ []) (behind before s)) ≡ behind before (eaten_of t (if x then ended_line true s else longer (b ∷ []) s))
    go true h =
        ap (λ (p : List ℕ). eaten_of t (program (ended_line true s).station [] p)) (append_assoc before s.printed (served_of s.kept s.station).text)
        ∙ h (ended_line true s)
    go false h = h (longer (b ∷ []) s)

-- the bench program with nothing left to write
abbrev written : Program → Program
written s = program s.station s.kept []

after_writing : (t : List ℕ) (s : Program) → eaten_of t s ≡ behind s.printed (eaten_of t (written s))
after_writing t s = ap (λ (p : List ℕ). eaten_of t (program s.station s.kept p)) (sym (append-nil s.printed)) ∙ eats_behind t s.printed (written s)

-- What is written for one chunk after another is what the whole input prints.
pub printed_in_any_chunks : (xs ys : List ℕ) (s : Program) → (eaten_of (xs ++ ys) s).printed ≡ (eaten_of xs s).printed ++ (eaten_of ys (written (eaten_of xs s))).printed
printed_in_any_chunks xs ys s = ap (λ (u : Program). u.printed) (in_any_chunks xs ys s ∙ after_writing ys (eaten_of xs s))

-- of a line that has begun, some is kept
some_kept : (kept line : List ℕ) → line ≡ begun kept → ltb 0 (length line) ≡ ltb 0 (length kept)
some_kept kept line h = rw h (let c = length-take 401 kept in by_order 0 (length (begun kept)) 0 (length kept) (λ k. omega arith) (λ k. omega arith))

-- what a read brought, or the input's end
module _ (bytes : List ℕ) (a b : Memory) (none : Bool) (e : none ≡ nothing bytes) where
  pub the_end : none ≡ true → (some : Bool) → some ≡ ltb 0 (length a.line) → Finishes some a b → Eats (read_of bytes) a b
  unfolding read_of
  the_end t some q x = record {
    sound = x.eats.sound;
    stands = λ s h. rw (sym e ∙ t) (rw (q, some_kept s.kept a.line h.keeps) at (x.eats.stands s h));
  }

  pub some_bytes : none ≡ false → Eats (eaten_of bytes) a b → Eats (read_of bytes) a b
  unfolding read_of
  some_bytes t r = record { sound = r.sound; stands = λ s h. rw (sym e ∙ t) (r.stands s h) }

-- what a read brought, by its answer
module _ {E : Type 0} (got : Result ℕ E) (chunk : List ℕ) where
  pub brought_some : (n m : ℕ) → got ≡ Ok n → m ≡ min n (length chunk) → take m chunk ≡ brought got chunk
  unfolding brought
  brought_some n m o e = rw (o, e, take_min)

  pub brought_none : (e : E) → got ≡ Err e → [] ≡ brought got chunk
  unfolding brought
  brought_none e o = rw o

-- no more than the array that was lent
pub brought_short : {E : Type 0} (got : Result ℕ E) (chunk bytes part : List ℕ) → ReadsAtMost got part → bytes ≡ brought got chunk → length part ≤ 2048 → length bytes ≤ 2048
unfolding brought
brought_short (Ok n) chunk bytes part m e l = rw e (omega (arith, length-take n chunk, m))
brought_short (Err x) chunk bytes part m e l = rw e (omega arith)

-- known bytes, taken from and added to in turn
consumes_none : (a b : Option (List ℕ)) → KeepsBytes a b → Consumes a b []
consumes_none None b h = tt
consumes_none (Some xs) None h = h
consumes_none (Some xs) (Some ys) h = sym h

consumes_more : (a b c : Option (List ℕ)) (xs ys : List ℕ) → Consumes a b xs → Consumes b c ys → Consumes a c (xs ++ ys)
consumes_more None b c xs ys h k = tt
consumes_more (Some u) None c xs ys h k = absurd h
consumes_more (Some u) (Some v) None xs ys h k = k
consumes_more (Some u) (Some v) (Some w) xs ys h k = h ∙ ap (λ (t : List ℕ). xs ++ t) k ∙ sym (append_assoc xs ys w)

appends_more : (a b c : Option (List ℕ)) (xs ys : List ℕ) → Appends a b xs → Appends b c ys → Appends a c (xs ++ ys)
appends_more None b c xs ys h k = tt
appends_more (Some u) None c xs ys h k = absurd h
appends_more (Some u) (Some v) None xs ys h k = k
appends_more (Some u) (Some v) (Some w) xs ys h k = k ∙ ap (λ (t : List ℕ). t ++ ys) h ∙ append_assoc u xs ys

keeps_itself : (a : Option (List ℕ)) → KeepsBytes a a
keeps_itself None = tt
keeps_itself (Some xs) = refl

appends_none : (a : Option (List ℕ)) → Appends a a []
appends_none None = tt
appends_none (Some xs) = sym (append-nil xs)

-- a read's answer, and what the reader has left
pub some_read :
    {E : Type 0} (got : Result ℕ E) (chunk bytes : List ℕ) (rest rest' : Option (List ℕ)) (a b : Memory) (over read : Bool) → 0 < length chunk → ReadConsumes rest rest' got chunk → bytes ≡ brought got chunk →
    Eats (read_of bytes) a b → over ≡ nothing bytes → read ≡ is_ok got → SomeRead rest rest' a b over read
unfolding brought
some_read (Ok n) chunk bytes rest rest' a b over read w h f r l e = record {
  bytes = bytes;
  reads = record { eats = r; last = l };
  consumed = rw f h.0;
  whole = λ o q. h.1 (none_asked (sym (l ∙ ap nothing f) ∙ o)) w;
}
  where
    none_asked : nothing (take n chunk) ≡ true → n ≡ 0
    none_asked q = let z : length (take n chunk) ≡ 0 = eqb-true (length (take n chunk)) 0 q in let l = length-take n chunk in omega arith
some_read (Err x) chunk bytes rest rest' a b over read w h f r l e = record {
  bytes = bytes;
  reads = record { eats = r; last = l };
  consumed = rw f (consumes_none rest rest' h);
  whole = λ o q. absurd (failed (sym e ∙ q));
}
  where
    failed : false ≡ true → ⊥
    failed q = cc

-- what is known of an answer that is good
pub where_ok : {X E : Type 0} (r : Result X E) (P : Type 0) (b : Bool) → b ≡ is_ok r → OnOk r P → b ≡ true → P
where_ok (Ok x) P b e h q = h
where_ok (Err x) P b e h q = let f : false ≡ true = sym e ∙ q in cc

-- the program before each read: it has eaten some input, which was read, and written what that prints
pub record Served (desk : Desk) (rest rest' held held' : Option (List ℕ)) (k : Station) (line : List ℕ) (reads : ℕ) : Type 0 where
  pub sound : Sound (memory k line [])
  pub input : List ℕ
  pub counted : reads ≤ length input
  pub stands : Stands (written (eaten_of input (opened desk))) (memory k line [])
  pub consumed : Consumes rest rest' input
  pub added : Appends held held' (eaten_of input (opened desk)).printed

pub opens : (desk : Desk) (rest held : Option (List ℕ)) (k : Station) (line : List ℕ) → k ≡ at_start desk → line ≡ [] → Served desk rest rest held held k line 0
unfolding eaten_of
opens desk rest held k line s e = record {
  sound = rw e (omega arith);
  input = [];
  counted = omega arith;
  stands = record { station = s; keeps = e; printed = refl };
  consumed = consumes_none rest rest (keeps_itself rest);
  added = appends_none held;
}

-- it ends: the input is over, or the last write failed
over_ends : (over wrote : Bool) → over ≡ true → ends over wrote ≡ true
over_ends over wrote e = rw e

unwritten_ends : (over wrote : Bool) → wrote ≡ false → ends over wrote ≡ true
unwritten_ends true wrote e = refl
unwritten_ends false wrote e = rw e

not_written : (wrote : Bool) → ends false wrote ≡ true → wrote ≡ true → ⊥
not_written true e q = let f : false ≡ true = e in cc
not_written false e q = cc

module _
    (desk : Desk) (rest rest' rest″ held held' held″ : Option (List ℕ)) (c k : Station) (line line' out' : List ℕ) (over read : Bool) (reads : ℕ)
    (s : Served desk rest rest' held held' c line reads) (x : SomeRead rest' rest″ (memory c line []) (memory k line' out') over read) where
  -- the bench program after the read
  now_stands : Stands (read_of x.bytes (written (eaten_of s.input (opened desk)))) (memory k line' out')
  now_stands = x.reads.eats.stands (written (eaten_of s.input (opened desk))) s.stands

  eaten_more : over ≡ false → Stands (eaten_of x.bytes (written (eaten_of s.input (opened desk)))) (memory k line' out')
  unfolding read_of
  eaten_more e = rw (sym x.reads.last ∙ e) at now_stands

  more_input : eaten_of (s.input ++ x.bytes) (opened desk) ≡ behind (eaten_of s.input (opened desk)).printed (eaten_of x.bytes (written (eaten_of s.input (opened desk))))
  more_input = in_any_chunks s.input x.bytes (opened desk) ∙ after_writing x.bytes (eaten_of s.input (opened desk))

  one_more : over ≡ false → reads + 1 ≤ length (s.input ++ x.bytes)
  one_more o =
      let some = eqb-false (length x.bytes) 0 (sym x.reads.last ∙ o) in
      let sum = length-append s.input x.bytes in
      let h = s.counted in
      omega arith

  more_consumed : Consumes rest rest″ (s.input ++ x.bytes)
  more_consumed = consumes_more rest rest' rest″ s.input x.bytes s.consumed x.consumed

  more_added : Appends held' held″ out' → Appends held held″ ((eaten_of s.input (opened desk)).printed ++ out')
  more_added w = appends_more held held' held″ (eaten_of s.input (opened desk)).printed out' s.added w

  pub goes_on : (wrote : Bool) → (wrote ≡ true → Appends held' held″ out') → over ≡ false → wrote ≡ true → Served desk rest rest″ held held″ k line' (reads + 1)
  goes_on wrote w o e = let u = eaten_more o in record {
    sound = x.reads.eats.sound;
    input = s.input ++ x.bytes;
    counted = one_more o;
    stands = rw more_input (record { station = u.station; keeps = u.keeps; printed = refl });
    consumed = more_consumed;
    added = rw more_input (rw u.printed at (more_added (w e)));
  }

  -- the station at the program's end, and what it prints there
  last_station : (t : Program) → (last_of (written t)).station ≡ (last_of t).station
  last_station t = go (ltb 0 (length t.kept))
    where
      go : (b : Bool) → (ended_line b (written t)).station ≡ (ended_line b t).station
      go true = refl
      go false = refl

  last_printed : (t : Program) → t.printed ++ (last_of (written t)).printed ≡ (last_of t).printed
  last_printed t = go (ltb 0 (length t.kept))
    where
      go : (b : Bool) → t.printed ++ (ended_line b (written t)).printed ≡ (ended_line b t).printed
      go true = refl
      go false = append-nil t.printed

  none_brought : over ≡ true → x.bytes ≡ []
  none_brought o = no_bytes x.bytes (eqb-true (length x.bytes) 0 (sym x.reads.last ∙ o))
    where
      no_bytes : (bytes : List ℕ) → length bytes ≡ 0 → bytes ≡ []
      no_bytes [] h = refl
      no_bytes (b ∷ t) h = absurd (omega arith)

  at_the_end : over ≡ true → Stands (last_of (written (eaten_of s.input (opened desk)))) (memory k line' out')
  unfolding read_of
  at_the_end o = rw (sym x.reads.last ∙ o) at now_stands

  all_consumed : over ≡ true → Consumes rest rest″ s.input
  all_consumed o = rw (none_brought o, append-nil) at more_consumed

  all_added : over ≡ true → Appends held' held″ out' → Appends held held″ (last_of (eaten_of s.input (opened desk))).printed
  all_added o w = rw ((at_the_end o).printed, last_printed (eaten_of s.input (opened desk))) at (more_added w)

  ended : (wrote : Bool) → (wrote ≡ true → Appends held' held″ out') → ends over wrote ≡ true → Ended desk rest rest″ held held″ (record { station = k; over = over; read = read; wrote = wrote; reads = reads })
  unfolding program_of
  ended wrote w e = go over refl
    where
      why : (ends over wrote || leb 18446744073709551615 reads) ≡ true
      why = rw e

      go : (b : Bool) → over ≡ b → Ended desk rest rest″ held held″ (record { station = k; over = over; read = read; wrote = wrote; reads = reads })
      go true o = record {
        input = s.input;
        station = rw o ((at_the_end o).station ∙ last_station (eaten_of s.input (opened desk)));
        reads = s.counted;
        reason = why;
        consumed = all_consumed o;
        whole = x.whole;
        written = λ q. rw o (all_added o (w q));
      }
      go false o = record {
        input = s.input ++ x.bytes;
        station = rw (o, more_input) (eaten_more o).station;
        reads = let h = one_more o in omega arith;
        reason = why;
        consumed = more_consumed;
        whole = λ q. let f : false ≡ true = sym o ∙ q in cc;
        written = λ q. absurd (not_written wrote (rw o at e) q);
      }

  module _ (wrote : Bool) (w : wrote ≡ true → Appends held' held″ out') where
    pub ended_over : over ≡ true → Ended desk rest rest″ held held″ (record { station = k; over = over; read = read; wrote = wrote; reads = reads })
    ended_over o = ended wrote w (over_ends over wrote o)

    pub ended_unwritten : wrote ≡ false → Ended desk rest rest″ held held″ (record { station = k; over = over; read = read; wrote = wrote; reads = reads })
    ended_unwritten q = ended wrote w (unwritten_ends over wrote q)

-- no more reads are made
pub no_more_reads :
    (desk : Desk) (rest rest' held held' : Option (List ℕ)) (k : Station) (line : List ℕ) (reads : ℕ) → Served desk rest rest' held held' k line reads → 18446744073709551615 ≤ reads →
    Ended desk rest rest' held held' (record { station = k; over = false; read = true; wrote = true; reads = 18446744073709551615 })
unfolding program_of
no_more_reads desk rest rest' held held' k line reads s h = record {
  input = s.input;
  station = s.stands.station;
  reads = let c = s.counted in omega arith;
  reason = le-leb 18446744073709551615 18446744073709551615 (omega arith);
  consumed = s.consumed;
  whole = λ q. let f : false ≡ true = q in cc;
  written = λ q. s.added;
}

-- "It reads lines .. It prints": all of the reader's bytes, and what they print
pub whole_program :
    (desk : Desk) (rest rest' held held' : Option (List ℕ)) (r : End) → Ended desk rest rest' held held' r → Succeeded r → IfSome rest (λ bytes. Appends held held' (program_of desk true bytes).printed)
whole_program desk None rest' held held' r e s = tt
whole_program desk (Some bytes) rest' held held' r e s = go rest' e.consumed (e.whole s.over s.read)
  where
    all_read : (xs : List ℕ) → xs ≡ [] → bytes ≡ e.input ++ xs → e.input ≡ bytes
    all_read xs z q = sym (q ∙ ap (λ (t : List ℕ). e.input ++ t) z ∙ append-nil e.input)

    go : (o : Option (List ℕ)) → Consumes (Some bytes) o e.input → IsAtEnd o → Appends held held' (program_of desk true bytes).printed
    go None q z = absurd q
    go (Some xs) q z = rw (s.over, all_read xs z q) at (e.written s.wrote)
