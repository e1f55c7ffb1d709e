-- Laws of `specs/Host`, one for each return of the code.
use mathlib.Core.Path.{◌≡◌, refl, sym, ap, ◌∙◌}
use mathlib.Core.Bool.{Bool, true, false, false≢true}
use mathlib.Core.Logic.{◌⊎◌, inl, inr}
use mathlib.Core.List.{List, [], ◌∷◌}
use Prim.Native.Nat.{ℕ, ◌+◌, ◌≤◌, ◌<◌}
use lib.IntN.{ℤ}
use mir.Syntax.{w32}
use mir.Val.{SFits, to_z, of_z}
use mir.Facts.{to_z-of_z}
use native.Mathlib.Omega.{arith}
use borrow.Author.Tests.{lt-ltb, le-ltb}
use lib.Dec.{ltb}
use lib.ListN.{length, get_or, set}
use Rattle.pipettor.specs.declared.address.S2.{S2}
use Rattle.pipettor.specs.Said.{Said}
use Rattle.machine.specs.Used.{s3}
use Rattle.line.specs.declared.Line.{Line}
use Rattle.line.specs.declared.Heard.{Heard}
use Rattle.line.specs.declared.Deed.TheVariants.{Nothing, Keep, Frame}
use Rattle.std.specs.Prelude.{if◌then◌else◌, Err, None, Ok, Option, Result, Some}
use Rattle.line.specs.Wire.{hear_of, keep_of, data_byte}
use Rattle.line.specs.declared.Framing.TheVariants as F
use Rattle.line.proofs.Framed.{inside_dt, dt_collects}
use Rattle.motion.specs.declared.Sense.{Sense}
use Rattle.motion.specs.Bodies.{sensing}
use Rattle.machine.specs.declared.step.News.{News}
use Rattle.machine.specs.declared.step.Ticked.{Ticked}
use Rattle.machine.specs.declared.Device.{Device}
use Rattle.machine.specs.declared.Turned.{Turned}
use Rattle.machine.specs.declared.Ran as Machine
use Rattle.machine.specs.Step.{around, next_of, no_news}
use Rattle.machine.specs.Run.{ticks_of, run_of}
use Rattle.machine.specs.Device.{device, turned, tick_of, halted_of, advance_of, ran_of}
use Rattle.machine.specs.Valid.{Valid}
use Rattle.machine.proofs.Devices.{is_advanced, is_refused, is_run}
use Rattle.pipettor.specs.declared.address.Address.{Address}
use Rattle.pipettor.specs.declared.lent.Parts.{Parts}
use Rattle.pipettor.specs.Byte.{after, reply, byte_of}
use Rattle.pipettor.specs.Lent.{whole}
use Rattle.pipettor.specs.Returns.{Returns}
use Rattle.host.specs.declared.Gone.{Gone}
use Rattle.host.specs.declared.Run.{Run}
use Rattle.image.specs.declared.Pose.{Pose}
use Rattle.image.specs.Sound.{flag_of}
use Rattle.image.specs.Image.{line_in, is_line, LineWritten, pose_in, is_pose, PoseWritten, idle, Kept, kept, collects, collect_of}
use Rattle.image.specs.Receiver.{line_at, same_held}
use Rattle.host.specs.Host.{receiver, Mover, mover, memory, address_number, pose_of, line_read, pose_read, received, moved, encode_of, address_in, address_held, s1, broken, said_code, news_code, used_code, done, spoke, Spoke, turned_pose, gone_pose, ran_pose, halted_pose, turned_in, tick_in, advance_in, run_in, stop_in, ended_by, heard_by, byte_in}
use Rattle.image.proofs.Sounding.{sound_valid}

-- a device's numbers after ticks, after a run and after a stop
abbrev gone_by : Turned → Gone
gone_by t = record { pose = pose_of t.device; news = t.news }

abbrev ran_by : Machine.Ran → Run
ran_by r = record { gone = gone_by r.turned; used = r.used }

module _ (n : ℕ) (s : Sense) (text : List ℕ) (p : Pose) where
  pub is_gone : (t : Ticked) (r : Gone) → t ≡ run_of n (around text s) p.core → r ≡ turned_pose n s p t.stepped → r ≡ gone_pose n s text p
  unfolding gone_pose
  is_gone t r e q =
      q ∙ ap gone_by (is_advanced n s (device text p.tip p.core) t (turned n s (device text p.tip p.core) t.stepped) e refl)

  pub too_many : (news : News) → 60000 < n → news ≡ no_news → record { gone = record { pose = p; news = news }; used = Err s3 } ≡ ran_pose n s text p
  unfolding ran_pose
  too_many news h e = ap ran_by (is_refused n s (device text p.tip p.core) news h e)

  pub is_ran :
      (t : Ticked) (r : Gone) → n ≤ 60000 → t ≡ run_of n (around text s) p.core → r ≡ turned_pose t.used s p t.stepped →
      record { gone = r; used = Ok t.used } ≡ ran_pose n s text p
  unfolding ran_pose
  is_ran t r h e q =
      ap (λ (g : Gone). record { gone = g; used = Ok t.used }) q ∙
      ap ran_by (is_run n s (device text p.tip p.core) t (turned t.used s (device text p.tip p.core) t.stepped) h e refl)

-- what is written of a device
pub moved_is : (p : Pose) (w n s x : List ℕ) → PoseWritten p w n s → mover w n s x ≡ moved (device x p.tip p.core)
unfolding moved
moved_is p w n s x o = rw (o.wide, o.words, o.small)

-- a run leaves the text, and a tick is one of many
text_stays : (k : ℕ) (s : Sense) (d : Device) → device d.text (ran_of k s d).turned.device.tip (ran_of k s d).turned.device.core ≡ (ran_of k s d).turned.device
unfolding ran_of advance_of
text_stays k s d = go (ltb 60000 k) refl
  where
    go : (b : Bool) → ltb 60000 k ≡ b → device d.text (ran_of k s d).turned.device.tip (ran_of k s d).turned.device.core ≡ (ran_of k s d).turned.device
    go true h = rw h
    go false h = rw h

one_tick : (s : Sense) (v : Mover) → turned_in (advance_of 1 s) v ≡ turned_in (λ d. (tick_of s d).next) v
unfolding advance_of tick_of ticks_of next_of
one_tick s v = refl

-- a reading that is handed in, as it was
pub as_handed : (tip : Bool) (reading : ℤ) → SFits w32 reading → sensing tip (to_z w32 (of_z w32 reading)) ≡ sensing tip reading
as_handed tip reading fits = ap (sensing tip) (to_z-of_z fits)

-- numbers that are a device's
pub readable : (n s : List ℕ) (p : Pose) (t : Bool) → t ≡ is_pose p n s → t ≡ true → Valid p.core
unfolding is_pose
readable n s p t e i = sound_valid p.core (grind arith)

-- numbers that are read as a device's, and numbers that are none's
module _ (w n s : List ℕ) (u : Option Pose) (e : u ≡ pose_read w n s) where
  module _ (i : u ≡ None) where
    no_pose : is_pose (pose_in w n s) n s ≡ false
    unfolding pose_read
    no_pose = grind arith

    pub not_stopped : (x : List ℕ) → done (mover w n s x) broken ≡ stop_in (mover w n s x)
    unfolding stop_in
    not_stopped x = rw no_pose

    pub not_advanced : (x : List ℕ) (z : Sense) (k : ℕ) → done (mover w n s x) broken ≡ advance_in k z (mover w n s x)
    unfolding turned_in
    not_advanced x z k = rw no_pose

    pub not_run : (x : List ℕ) (z : Sense) (k : ℕ) → done (mover w n s x) broken ≡ run_in k z (mover w n s x)
    unfolding run_in
    not_run x z k = rw no_pose

    pub not_ticked : (x : List ℕ) (z : Sense) (b : Bool) → b ≡ idle s → b ≡ false → done (mover w n s x) broken ≡ tick_in z (mover w n s x)
    unfolding tick_in turned_in
    not_ticked x z b j l = rw (← j, l, no_pose)

  module _ (p : Pose) (i : u ≡ Some p) where
    pub read_so : (is_pose (pose_in w n s) n s ≡ true) × (pose_in w n s ≡ p)
    unfolding pose_read
    read_so = grind arith

    pub is_stop :
        (x : List ℕ) (q : Pose) (w' n' s' : List ℕ) → q ≡ halted_pose p → PoseWritten q w' n' s' → done (mover w' n' s' x) 0 ≡ stop_in (mover w n s x)
    unfolding stop_in halted_pose halted_of
    is_stop x q w' n' s' k o = rw (read_so.0, read_so.1, moved_is q w' n' s' x o, k)

    module _ (x : List ℕ) (z y : Sense) where
      pub is_advance :
          (k : ℕ) (g : Gone) (w' n' s' : List ℕ) (r : ℕ) → g ≡ gone_pose k y x p → y ≡ z → PoseWritten g.pose w' n' s' → r ≡ news_code 0 g.news →
          done (mover w' n' s' x) r ≡ advance_in k z (mover w n s x)
      unfolding turned_in gone_pose advance_of
      is_advance k g w' n' s' r q a o v = rw (read_so.0, read_so.1, moved_is g.pose w' n' s' x o, v, q, a)

      pub is_running :
          (k : ℕ) (g : Run) (w' n' s' : List ℕ) (r : ℕ) → g ≡ ran_pose k y x p → y ≡ z → PoseWritten g.gone.pose w' n' s' → r ≡ used_code g.used g.gone.news →
          done (mover w' n' s' x) r ≡ run_in k z (mover w n s x)
      unfolding run_in ran_pose
      is_running k g w' n' s' r q a o v =
          rw (read_so.0, read_so.1, moved_is g.gone.pose w' n' s' x o, v, q, a)
          (ap (λ (d : Device). done (moved d) (used_code (ran_pose k z x p).used (ran_pose k z x p).gone.news)) (text_stays k z (device x p.tip p.core)))

      pub is_tick :
          (b : Bool) (g : Gone) (w' n' s' : List ℕ) (r : ℕ) → b ≡ idle s → b ≡ false → g ≡ gone_pose 1 y x p → y ≡ z → PoseWritten g.pose w' n' s' → r ≡ news_code 0 g.news →
          done (mover w' n' s' x) r ≡ tick_in z (mover w n s x)
      unfolding tick_in
      is_tick b g w' n' s' r j l q a o v = rw (← j, l) (is_advance 1 g w' n' s' r q a o v ∙ one_tick z (mover w n s x))

-- while nothing runs
pub is_idle_tick : (w n s x : List ℕ) (z : Sense) (b : Bool) (k : ℕ) → b ≡ idle s → b ≡ true → k ≡ flag_of z.tip → done (mover w n (set s 3 k) x) 0 ≡ tick_in z (mover w n s x)
unfolding tick_in
is_idle_tick w n s x z b k j l q = rw (← j, l, q)

-- what receives
pub received_is : (x : Line) (l c f : List ℕ) → LineWritten x l c → receiver l c f ≡ received x f
unfolding received
received_is x l c f o = rw (o.line, o.count)

module _ (l c : List ℕ) (t : Option Line) (e : t ≡ line_read l c) where
  no_line : t ≡ None → is_line l c ≡ false
  unfolding line_read
  no_line i = grind arith

  pub line_is_read : (x : Line) → t ≡ Some x → x ≡ line_in l c
  unfolding line_read
  line_is_read x i = grind arith

  line_so : (x : Line) → t ≡ Some x → (is_line l c ≡ true) × (line_in l c ≡ x)
  unfolding line_read
  line_so x i = grind arith

-- a byte that only a frame in hand takes
module _ (b : ℕ) (l c : List ℕ) (e : collects b l c ≡ true) where
  in_hand : (get_or l 0 0 ≡ 2) × ((get_or l 2 0 ≡ 0) × ((get_or l 3 0 ≡ 0) × ((data_byte F.Dt b ≡ true) × (get_or c 0 0 < 320))))
  unfolding collects
  in_hand = grind arith

  line_is : line_in l c ≡ inside_dt (get_or l 1 0) (get_or c 0 0)
  unfolding line_in line_at
  line_is = rw in_hand.0

  pub is_line_lem : is_line l c ≡ true
  unfolding is_line same_held
  is_line_lem = rw line_is (grind (arith, in_hand))

  pub keeps_it : hear_of (line_in l c) b ≡ record { line = inside_dt (get_or l 1 0) (get_or c 0 0 + 1); deed = Keep (get_or c 0 0) }
  keeps_it = rw line_is (dt_collects.kept (get_or l 1 0) (get_or c 0 0) b in_hand.1.1.1.0 in_hand.1.1.1.1)

-- a byte, where no data byte is kept
module _ (b : ℕ) (buf a : List ℕ) (v : Mover) (long : 32 ≤ length buf) (l c f : List ℕ) (t : Option Line) (h : t ≡ line_read l c) where
  none_hears : t ≡ None → spoke (memory a (receiver l c f) v) buf broken ≡ byte_in b buf (memory a (receiver l c f) v)
  unfolding byte_in
  none_hears j = rw (le-ltb (length buf) 32 long, no_line l c t h j)

  module _ (x : Line) (j : t ≡ Some x) (y : Heard Line) (k : y ≡ hear_of x b) where
    hears :
        (l' c' f' : List ℕ) → (y.deed ≡ Nothing) ⊎ ((n : ℕ) × y.deed ≡ Keep n) → f' ≡ keep_of f y.deed b → LineWritten y.line l' c' →
        spoke (memory a (receiver l' c' f') v) buf 0 ≡ byte_in b buf (memory a (receiver l c f) v)
    unfolding byte_in heard_by keep_of
    hears l' c' f' (inl i) q o =
        rw (le-ltb (length buf) 32 long, (line_so l c t h x j).0, (line_so l c t h x j).1, ← k, i, received_is y.line l' c' f' o, q, i)
    hears l' c' f' (inr (n, i)) q o =
        rw (le-ltb (length buf) 32 long, (line_so l c t h x j).0, (line_so l c t h x j).1, ← k, i, received_is y.line l' c' f' o, q, i)

    ends :
        (g m : ℕ) (r : Spoke) → y.deed ≡ Frame g m → r ≡ ended_by (address_held (memory a (receiver l c f) v)) b buf (memory a (receiver l c f) v) →
        r ≡ byte_in b buf (memory a (receiver l c f) v)
    unfolding byte_in heard_by
    ends g m r d q = rw (le-ltb (length buf) 32 long, (line_so l c t h x j).0, (line_so l c t h x j).1, ← k, d) q

-- a byte
module _ (b : ℕ) (buf a : List ℕ) (v : Mover) (l c f : List ℕ) where
  pub short_buffer : length buf < 32 → spoke (memory a (receiver l c f) v) buf s1 ≡ byte_in b buf (memory a (receiver l c f) v)
  unfolding byte_in
  short_buffer h = rw (lt-ltb (length buf) 32 h)

  module _ (long : 32 ≤ length buf) where
    collected :
        collects b l c ≡ true →
        spoke (memory a (receiver (2 ∷ get_or l 1 0 ∷ 0 ∷ 0 ∷ []) ((get_or c 0 0 + 1) ∷ []) (set f (get_or c 0 0) b)) v) buf 0 ≡ byte_in b buf (memory a (receiver l c f) v)
    unfolding byte_in heard_by received
    collected e = rw (le-ltb (length buf) 32 long, is_line_lem b l c e, keeps_it b l c e)

    module _ (l' c' f' : List ℕ) (r : Bool) (u : kept l' c' f' r ≡ collect_of b l c f) where
      pub is_datum : r ≡ true → spoke (memory a (receiver l' c' f') v) buf 0 ≡ byte_in b buf (memory a (receiver l c f) v)
      unfolding collect_of
      is_datum i = go (collects b l c) refl u
        where
          go :
              (t : Bool) → collects b l c ≡ t →
              kept l' c' f' r ≡ (if t then kept (2 ∷ get_or l 1 0 ∷ 0 ∷ 0 ∷ []) ((get_or c 0 0 + 1) ∷ []) (set f (get_or c 0 0) b) true else kept l c f false) →
              spoke (memory a (receiver l' c' f') v) buf 0 ≡ byte_in b buf (memory a (receiver l c f) v)
          go true h k = ap (λ (x : Kept). spoke (memory a (receiver x.line x.count x.frame) v) buf 0) k ∙ collected h
          go false h k = absurd (false≢true (sym (ap (λ (x : Kept). x.taken) k) ∙ i))

      module _ (i : r ≡ false) where
        as_before : (x : Spoke) → x ≡ byte_in b buf (memory a (receiver l' c' f') v) → x ≡ byte_in b buf (memory a (receiver l c f) v)
        unfolding collect_of
        as_before x e = go (collects b l c) refl u
          where
            go :
                (t : Bool) → collects b l c ≡ t →
                kept l' c' f' r ≡ (if t then kept (2 ∷ get_or l 1 0 ∷ 0 ∷ 0 ∷ []) ((get_or c 0 0 + 1) ∷ []) (set f (get_or c 0 0) b) true else kept l c f false) →
                x ≡ byte_in b buf (memory a (receiver l c f) v)
            go true h k = absurd (false≢true (sym i ∙ ap (λ (y : Kept). y.taken) k))
            go false h k = e ∙ ap (λ (y : Kept). byte_in b buf (memory a (receiver y.line y.count y.frame) v)) k

        module _ (t : Option Line) (h : t ≡ line_read l' c') where
          pub no_receiver : t ≡ None → spoke (memory a (receiver l' c' f') v) buf broken ≡ byte_in b buf (memory a (receiver l c f) v)
          no_receiver j = as_before _ (none_hears b buf a v long l' c' f' t h j)

          module _ (x : Line) (j : t ≡ Some x) (y : Heard Line) (k : y ≡ hear_of x b) where
            pub only_receiver :
                (l'' c'' f'' : List ℕ) → (y.deed ≡ Nothing) ⊎ ((n : ℕ) × y.deed ≡ Keep n) → f'' ≡ keep_of f' y.deed b → LineWritten y.line l'' c'' →
                spoke (memory a (receiver l'' c'' f'') v) buf 0 ≡ byte_in b buf (memory a (receiver l c f) v)
            only_receiver l'' c'' f'' e q o = as_before _ (hears b buf a v long l' c' f' t h x j y k l'' c'' f'' e q o)

            pub frame_ends :
                (g m : ℕ) (r : Spoke) → y.deed ≡ Frame g m → r ≡ ended_by (address_held (memory a (receiver l' c' f') v)) b buf (memory a (receiver l' c' f') v) →
                r ≡ byte_in b buf (memory a (receiver l c f) v)
            frame_ends g m r d q = as_before r (ends b buf a v long l' c' f' t h x j y k g m r d q)

-- the byte that completes a frame
module _ (b : ℕ) (buf a l c f w n s x : List ℕ) (g : Result Address S2) (p : g ≡ address_in a) where
  pub no_address :
      (z : S2) → g ≡ Err z →
      spoke (memory a (receiver l c f) (mover w n s x)) buf broken ≡ ended_by (address_held (memory a (receiver l c f) (mover w n s x))) b buf (memory a (receiver l c f) (mover w n s x))
  unfolding ended_by
  no_address z i = rw (← p, i)

  module _ (o : Address) (i : g ≡ Ok o) (u : Option Pose) (e : u ≡ pose_read w n s) where
    pub no_device :
        u ≡ None →
        spoke (memory a (receiver l c f) (mover w n s x)) buf broken ≡ ended_by (address_held (memory a (receiver l c f) (mover w n s x))) b buf (memory a (receiver l c f) (mover w n s x))
    unfolding ended_by
    no_device j = rw (← p, i, no_pose w n s u e j)

    pub is_spoken :
        (y : Pose) (m : Line) (h : Parts) (d : Said) (buf' l' c' f' w' n' s' x' : List ℕ) (k : Pose) (r v : ℕ) → u ≡ Some y → m ≡ line_in l c →
        Returns (after (reply (whole h f' x') d) buf') (byte_of (whole record { address = o; line = m; tip = y.tip; core = y.core } f x) b buf).next (whole h f' x') →
        v ≡ address_number h.address → LineWritten h.line l' c' → k ≡ record { tip = h.tip; core = h.core } → PoseWritten k w' n' s' → r ≡ said_code d →
        spoke (memory (v ∷ []) (receiver l' c' f') (mover w' n' s' x')) buf' r ≡
        ended_by (address_held (memory a (receiver l c f) (mover w n s x))) b buf (memory a (receiver l c f) (mover w n s x))
    unfolding ended_by encode_of
    is_spoken y m h d buf' l' c' f' w' n' s' x' k r v j ml z va o1 kp o2 rd =
        rw (← p, i, (read_so w n s u e y j).0, (read_so w n s u e y j).1, ← ml, ← z.is, received_is h.line l' c' f' o1, moved_is k w' n' s' x' o2, kp, rd, va)
