-- What a proper plan gives: kept nodes, and for each stream of a class one sender, equal settings, a ledger, no message yet.
use Prim.Native.Nat.{ℕ, zero, suc, ◌≤◌, ◌<◌}
use native.Mathlib.Omega.{arith}
use mathlib.Core.Path.{◌≡◌, refl, sym, subst, ◌∙◌}
use mathlib.Core.Logic.{◌⊎◌, inl, inr}
use mathlib.Core.Bool.{Bool, true, false, not, ◌&&◌, ◌||◌, cond}
use mathlib.Core.List.{List, [], ◌∷◌, ◌++◌, map}
use lib.ListN.{length}
use lib.Dec.{T, leb, eqb, eqb_refl, eqb→eq, T_not}
use native.Mathlib.Decide.{dec_le}
use Rattle.wire.specs.declared.ids.Stream.{Stream}
use Rattle.wire.specs.declared.settings.Settings.{Settings}
use Rattle.node.specs.declared.slots.Slot.{Slot}
use Rattle.node.specs.declared.Node.{Node}
use Rattle.wire.specs.Settings.{receives, legal}
use Rattle.wire.proofs.LegalSettings.{legal_tells}
use Rattle.node.specs.Calls.{after, after_from}
use Rattle.node.specs.Clock.{unbounded}
use Rattle.node.specs.Nodes.{slot_of, fresh, Outcome}
use Rattle.node.specs.Reachable.{Kept}
use Rattle.node.specs.Slots.{slot_for, is_receiver, is_sender, is_of, empty, first, some}
use Rattle.node.proofs.Cases.{by_case}
use Rattle.node.proofs.set_up.Cases.{SetUpFacts, set_up_cases}
use Rattle.node.proofs.set_up.TheSlot.{other_stays, own_is_found}
use Rattle.node.specs.SetUp.{in_place}
use Rattle.node.proofs.kept.EveryCall.{kept}
use Rattle.one_stream.proofs.Truth.{cond_elim, and_l, and_r, both, or_l, or_r, decide, is_true, is_false, so}
use Rattle.bench.specs.Bench.{Bench, Ledger, no_book, no_module, module_at, slot_at, books_in, books_of, frame_of, same_stream}
use Rattle.bench.specs.Lists.{nth, every}
use Rattle.bench.specs.SetUp.{Entry, Part, Plan, set_ups, same_numbers, agree, parts_agree, all_agree, all_entries, accepted, is_sent}
use Rattle.bench.specs.SetUp.{proper, with_ledger, ledgers_for, module_for, start}
use Rattle.bench.proofs.laws.SlotAfterCall.{Same, stream_of_slot, slot_kept}
use Rattle.bench.proofs.laws.ModuleAfterEvent.{decide_stream}
use Rattle.bench.proofs.laws.BooksAfterEvent.{listed}
use Rattle.bench.proofs.laws.FramesOfBooks.{Labels, no_frame_law}
use Rattle.bench.proofs.message.ClassOnBench.{to_delays}
use Rattle.bench.proofs.message.SeenAfterOwnEvent.{Valid, not_both}
use Rattle.bench.proofs.message.ThroughHistory.{Quiet, NoBook}
use Rattle.node.specs.SetUp as SetUp
use Rattle.wire.specs.Settings as wire

-- ── setting up a stream ──
-- a slot of a stream is as it was, or was just set up
pub data SetSlot (s : Stream) (z : Stream) (set : Settings) (before : Slot) : Slot → Type 0 where
  stays : SetSlot s z set before before
  is_set : z ≡ s → SetSlot s z set before (slot_for s set)

set_slot : (s z : Stream) (set : Settings) (n : Node) → SetSlot s z set (slot_of s n) (slot_of s (SetUp.set_up z set n).node)
set_slot s z set n =
    by_case (λ (o : Outcome). SetSlot s z set (slot_of s n) (slot_of s o.node)) (λ r why. stays) (λ h. taken h (decide_stream s z))
    (set_up_cases z set n).case
  where
    taken : SetUpFacts z set n → (s ≡ z) ⊎ (Same s z → ⊥) → SetSlot s z set (slot_of s n) (first (is_of s) (in_place (slot_for z set) n.slots))
    taken h (inr other) =
        let not_s = is_false (eqb z.0 s.0) (λ t. other (sym (eqb→eq z.0 s.0 t))) in
        subst (SetSlot s z set (slot_of s n)) (sym (other_stays s (slot_for z set) not_s n.slots)) stays
    taken h (inl e) =
        let own = is_true (eqb s.0 s.0) (eqb_refl s.0) in
        let new = subst (λ y. some (is_of y) n.slots ≡ false) (sym e) h.new in
        subst (λ y. SetSlot s z set (slot_of s n) (first (is_of s) (in_place (slot_for y set) n.slots))) e
        (subst (SetSlot s z set (slot_of s n)) (sym (own_is_found s (slot_for s set) own n.slots new h.room)) (is_set (sym e)))

-- ── the slots of a module after set up ──
abbrev pub In : Entry → Part → Type 0
In e [] = ⊥
In e (y ∷ ys) = (y ≡ e) ⊎ In e ys

pub data FromPlan (s : Stream) (part : Part) : Slot → Type 0 where
  no_entry : FromPlan s part empty
  entry : (e : Entry) → In e part → e.stream ≡ s → FromPlan s part (slot_for s e.settings)

set_ups_law : (s : Stream) (whole part : Part) → ((e : Entry) → In e part → In e whole) → (n : Node) → FromPlan s whole (slot_of s n)
    → FromPlan s whole (slot_of s (after_from unbounded n (set_ups part)))
set_ups_law s whole [] sub n h = h
set_ups_law s whole (e ∷ es) sub n h =
    set_ups_law s whole es (λ f i. sub f (inr i)) (SetUp.set_up e.stream e.settings n).node (go (set_slot s e.stream e.settings n))
  where
    go : {y : Slot} → SetSlot s e.stream e.settings (slot_of s n) y → FromPlan s whole y
    go stays = h
    go (is_set q) = entry e (sub e (inl refl)) q

fresh_slot : (s : Stream) → slot_of s fresh ≡ empty
unfolding first
fresh_slot s = refl

pub from_plan : (s : Stream) (part : Part) → FromPlan s part (slot_of s (after unbounded (set_ups part)))
from_plan s part = set_ups_law s part part (λ e i. i) fresh (subst (FromPlan s part) (sym (fresh_slot s)) no_entry)

-- ── what the tests of a plan say ──
every_in : {A : Type 0} (test : A → Bool) (l : List A) → T (every test l) → (n : ℕ) (d : A) → T (test d) → T (test (nth d n l))
every_in test [] t n d e = e
every_in test (x ∷ xs) t zero d e = and_l (test x) (every test xs) t
every_in test (x ∷ xs) t (suc n) d e = every_in test xs (and_r (test x) (every test xs) t) n d e

each_entry : (test : Entry → Bool) (part : Part) → T (every test part) → (e : Entry) → In e part → T (test e)
each_entry test [] t e i = absurd i
each_entry test (y ∷ ys) t e (inl q) = subst (λ z. T (test z)) q (and_l (test y) (every test ys) t)
each_entry test (y ∷ ys) t e (inr i) = each_entry test ys (and_r (test y) (every test ys) t) e i

parts_agree_law : (p q : Part) → T (parts_agree p q) → (e f : Entry) → In e p → In f q → T (agree e f)
parts_agree_law p q t e f i j = each_entry (agree e) q (each_entry (λ x. every (agree x) q) p t e i) f j

pub proper_agrees : (plan : Plan) → T (proper plan) → T (all_agree plan)
unfolding proper
proper_agrees plan ok =
    let sizes = leb 2 (length plan) && leb (length plan) 8 in
    let sent = every (λ (e : Entry). is_sent plan e.stream) (all_entries plan) in
    and_r (sizes && every accepted plan) (all_agree plan) (and_l (sizes && every accepted plan && all_agree plan) sent ok)

-- entries of an earlier and a later module agree
pub plan_agrees : (plan : Plan) → T (all_agree plan) → (i j : ℕ) → i < j → (e f : Entry) → In e (nth [] i plan) → In f (nth [] j plan)
    → T (agree e f)
plan_agrees [] t i j h e f x y = absurd x
plan_agrees (p ∷ ps) t zero zero h e f x y = let z : ⊥ = omega arith in absurd z
plan_agrees (p ∷ ps) t zero (suc j) h e f x y =
    parts_agree_law p (nth [] j ps) (every_in (parts_agree p) ps (and_l (every (parts_agree p) ps) (all_agree ps) t) j [] (nothing p)) e f x y
  where
    nothing : (p : Part) → T (parts_agree p [])
    nothing [] = tt
    nothing (x ∷ xs) = nothing xs
plan_agrees (p ∷ ps) t (suc i) zero h e f x y = let z : ⊥ = omega arith in absurd z
plan_agrees (p ∷ ps) t (suc i) (suc j) h e f x y =
    plan_agrees ps (and_r (every (parts_agree p) ps) (all_agree ps) t) i j (omega arith) e f x y

pub node_at : (plan : Plan) (i : ℕ) → (nth no_module i (map module_for plan)).node ≡ after unbounded (set_ups (nth [] i plan))
node_at [] i = refl
node_at (p ∷ ps) zero = refl
node_at (p ∷ ps) (suc i) = node_at ps i

-- ── ledgers ──
listed_with : (s z : Stream) (ls : List Ledger) → T (listed s ls) → T (listed s (with_ledger z ls))
listed_with s z ls t = cond_elim (λ ls. T (listed s ls)) (listed z ls) (λ y. t) (λ y. or_r (same_stream z s) (listed s ls) t)

listed_own : (z : Stream) (ls : List Ledger) → T (listed z (with_ledger z ls))
listed_own z ls = go (listed z ls) (λ t. t)
  where
    go : (h : Bool) → (T h → T (listed z ls)) → T (listed z (cond h ls (record { stream = z; books = [] } ∷ ls)))
    go true f = f tt
    go false f = or_l (same_stream z z) (listed z ls) (eqb_refl z.0)

pub listed_entry : (es : List Entry) (e : Entry) → In e es → T (listed e.stream (ledgers_for es))
listed_entry [] e i = absurd i
listed_entry (y ∷ ys) e (inl q) = subst (λ z. T (listed z.stream (ledgers_for (y ∷ ys)))) q (listed_own y.stream (ledgers_for ys))
listed_entry (y ∷ ys) e (inr i) = listed_with e.stream y.stream (ledgers_for ys) (listed_entry ys e i)

in_append : (p q : List Entry) (e : Entry) → In e p ⊎ In e q → In e (p ++ q)
in_append [] q e (inl i) = absurd i
in_append [] q e (inr i) = i
in_append (x ∷ xs) q e (inl (inl r)) = inl r
in_append (x ∷ xs) q e (inl (inr i)) = inr (in_append xs q e (inl i))
in_append (x ∷ xs) q e (inr i) = inr (in_append xs q e (inr i))

in_entries : (plan : Plan) (i : ℕ) (e : Entry) → In e (nth [] i plan) → In e (all_entries plan)
in_entries [] i e h = absurd h
in_entries (p ∷ ps) zero e h = in_append p (all_entries ps) e (inl h)
in_entries (p ∷ ps) (suc i) e h = in_append p (all_entries ps) e (inr (in_entries ps i e h))

pub no_books : (z : Stream) (es : List Entry) → books_in z (ledgers_for es) ≡ []
no_books z [] = refl
no_books z (e ∷ es) = cond_elim (λ ls. books_in z ls ≡ []) (listed e.stream (ledgers_for es)) (λ t. no_books z es)
    (λ t. cond_elim (λ ks. ks ≡ []) (same_stream e.stream z) (λ y. refl) (λ y. no_books z es))

-- ── two modules' settings of one stream ──
record Alike (x y : Settings) : Type 0 where
  pub class : x.class ≡ y.class
  pub numbers : to_delays x ≡ to_delays y
  pub one_sends : T (wire.sends x) → T (wire.sends y) → ⊥

alike_sym : {x y : Settings} → Alike x y → Alike y x
alike_sym a = record { class = sym a.class; numbers = sym a.numbers; one_sends = λ u v. a.one_sends v u }

alike_of : (s : Stream) (e f : Entry) → e.stream ≡ s → f.stream ≡ s → T (agree e f) → Alike e.settings f.settings
alike_of s e f p q t =
    let x = e.settings in
    let y = f.settings in
    let numbers = and_l (same_numbers x y) (not (wire.sends x && wire.sends y)) agreed in
    let four = and_l (eqb x.class y.class && eqb x.rd y.rd && eqb x.dc y.dc && eqb x.ra y.ra) (eqb x.dd y.dd)
    numbers in
    let three = and_l (eqb x.class y.class && eqb x.rd y.rd && eqb x.dc y.dc) (eqb x.ra y.ra) four in
    let two = and_l (eqb x.class y.class && eqb x.rd y.rd) (eqb x.dc y.dc) three in
    let rd = eqb→eq x.rd y.rd (and_r (eqb x.class y.class) (eqb x.rd y.rd) two) in
    let dc = eqb→eq x.dc y.dc (and_r (eqb x.class y.class && eqb x.rd y.rd) (eqb x.dc y.dc) three) in
    let ra = eqb→eq x.ra y.ra (and_r (eqb x.class y.class && eqb x.rd y.rd && eqb x.dc y.dc) (eqb x.ra y.ra) four) in
    let dd = eqb→eq x.dd y.dd
    (and_r (eqb x.class y.class && eqb x.rd y.rd && eqb x.dc y.dc && eqb x.ra y.ra) (eqb x.dd y.dd) numbers) in
    record {
      class = eqb→eq x.class y.class (and_l (eqb x.class y.class) (eqb x.rd y.rd) two);
      numbers = λ i. record { rd = rd i; dc = dc i; ra = ra i; dd = dd i; e = 0; da = 0 };
      one_sends =
          λ u v. T_not (wire.sends x && wire.sends y) (and_r (same_numbers x y) (not (wire.sends x && wire.sends y)) agreed)
          (both (wire.sends x) (wire.sends y) u v);
    }
  where
    one_stream : T (same_stream e.stream f.stream)
    one_stream = subst (λ (z : Stream). T (eqb e.stream.0 z.0)) (p ∙ sym q) (eqb_refl e.stream.0)

    agreed : T (same_numbers e.settings f.settings && not (wire.sends e.settings && wire.sends f.settings))
    agreed = go (same_stream e.stream f.stream) one_stream t
      where
        go : (o : Bool) → T o
            → T (not o || (same_numbers e.settings f.settings && not (wire.sends e.settings && wire.sends f.settings)))
            → T (same_numbers e.settings f.settings && not (wire.sends e.settings && wire.sends f.settings))
        go true o t = t
        go false o t = absurd o

-- ── a stream that a module of a proper plan sends ──
module _ (plan : Plan) (ok : T (proper plan)) (s : Stream) where
  abbrev b₀ : Bench
  b₀ = start plan

  start_node : (i : ℕ) → (module_at i b₀).node ≡ after unbounded (set_ups (nth [] i plan))
  unfolding start
  start_node i = node_at plan i

  pub start_kept : (i : ℕ) → Kept (module_at i b₀).node
  start_kept i = subst Kept (sym (start_node i)) (kept (set_ups (nth [] i plan)))

  slot_from : (i : ℕ) → FromPlan s (nth [] i plan) (slot_at s i b₀)
  slot_from i = subst (λ (n : Node). FromPlan s (nth [] i plan) (slot_of s n)) (sym (start_node i)) (from_plan s (nth [] i plan))

  record HasEntry (part : Part) (x : Slot) : Type 0 where
    pub entry_is : Entry
    pub there : In entry_is part
    pub stream_is : entry_is.stream ≡ s
    pub settings_are : x.settings ≡ entry_is.settings

  has_entry : (part : Part) {x : Slot} → FromPlan s part x → T x.used → HasEntry part x
  has_entry part no_entry t = absurd t
  has_entry part (entry e i q) t = record { entry_is = e; there = i; stream_is = q; settings_are = refl }

  used_of : (x : Slot) → T (is_receiver x) ⊎ T (is_sender x) → T x.used
  used_of x (inl t) = and_l x.used (receives x.settings) t
  used_of x (inr t) = and_l x.used (wire.sends x.settings) t

  alike : (i j : ℕ) → (i ≡ j → ⊥) → T (slot_at s i b₀).used → T (slot_at s j b₀).used
      → Alike (slot_at s i b₀).settings (slot_at s j b₀).settings
  alike i j differ u u' =
      subst (λ x. Alike x (slot_at s j b₀).settings) (sym e.settings_are)
      (subst (Alike e.entry_is.settings) (sym f.settings_are) (go (dec_le i j)))
    where
      e : HasEntry (nth [] i plan) (slot_at s i b₀)
      e = has_entry (nth [] i plan) (slot_from i) u

      f : HasEntry (nth [] j plan) (slot_at s j b₀)
      f = has_entry (nth [] j plan) (slot_from j) u'

      go : Dec (i ≤ j) → Alike e.entry_is.settings f.entry_is.settings
      go (yes h) =
          alike_of s e.entry_is f.entry_is e.stream_is f.stream_is
          (plan_agrees plan (proper_agrees plan ok) i j (strict h) e.entry_is f.entry_is e.there f.there)
        where
          strict : i ≤ j → i < j
          strict h = omega (arith, differ)
      go (no h) =
          alike_sym (alike_of s f.entry_is e.entry_is f.stream_is e.stream_is
          (plan_agrees plan (proper_agrees plan ok) j i (omega arith) f.entry_is e.entry_is f.there e.there))

  quiet_slot : {part : Part} {x : Slot} → FromPlan s part x → Quiet x
  quiet_slot no_entry = record { held = refl; no_payload = refl; no_confirmation = refl; no_abort = refl }
  quiet_slot (entry e i q) = record { held = refl; no_payload = refl; no_confirmation = refl; no_abort = refl }

  pub start_silent : NoBook s b₀
  start_silent = record { books = unfold start in no_books s (all_entries plan); quiet = λ i. quiet_slot (slot_from i) }

  pub start_labels : Labels b₀
  start_labels = record { label = λ z l n w t. absurd (no_frame_law n w (subst (λ ks. T (frame_of w (nth no_book n ks)).given) (none z) t)) }
    where
      none : (z : Stream) → books_of z b₀ ≡ []
      none z = unfold start in no_books z (all_entries plan)

  module _ (me : ℕ) (sender : T (is_sender (slot_at s me b₀))) where
    me_used : T (slot_at s me b₀).used
    me_used = used_of (slot_at s me b₀) (inr sender)

    pub start_lawful : T (legal s (slot_at s me b₀).settings)
    start_lawful =
        let x = slot_at s me b₀ in
        let k = slot_kept s (module_at me b₀).node (start_kept me) in
        subst (λ z. T (legal z x.settings)) (stream_of_slot s (module_at me b₀).node me_used) (so (k.lawful (is_true x.used me_used)))

    pub start_valid : {n : ℕ} → T (eqb (slot_at s me b₀).settings.class n) → Valid n (to_delays (slot_at s me b₀).settings) s me b₀
    start_valid {n} of =
        record {
          nodes = start_kept;
          small = ((legal_tells s (slot_at s me b₀).settings).says (is_true (legal s (slot_at s me b₀).settings) start_lawful)).stream;
          receivers = λ i t.
              let differ : i ≡ me → ⊥ = λ e. not_both (slot_at s me b₀) (subst (λ j. T (is_receiver (slot_at s j b₀))) e t) sender in
              let a = alike i me differ (used_of (slot_at s i b₀) (inl t)) me_used in
              record { class = subst (λ c. T (eqb c n)) (sym a.class) of; numbers = a.numbers };
          sender = (sender, record { class = of; numbers = refl });
          only = λ i t. go i t (decide (eqb i me));
          ledger = listed_me;
          labels = start_labels;
        }
      where
        go : (i : ℕ) → T (is_sender (slot_at s i b₀)) → T (eqb i me) ⊎ (T (eqb i me) → ⊥) → i ≡ me
        go i t (inl e) = eqb→eq i me e
        go i t (inr n) =
            let differ : i ≡ me → ⊥ = λ e. n (subst (λ j. T (eqb i j)) e (eqb_refl i)) in
            let a = alike i me differ (used_of (slot_at s i b₀) (inr t)) me_used in
            absurd (a.one_sends (and_r (slot_at s i b₀).used (wire.sends (slot_at s i b₀).settings) t)
            (and_r (slot_at s me b₀).used (wire.sends (slot_at s me b₀).settings) sender))

        listed_me : T (listed s b₀.ledgers)
        listed_me =
            let e = has_entry (nth [] me plan) (slot_from me) me_used in
            unfold start in subst (λ z. T (listed z (ledgers_for (all_entries plan)))) e.stream_is
            (listed_entry (all_entries plan) e.entry_is (in_entries plan me e.entry_is e.there))
