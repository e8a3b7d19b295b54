-- The laws of a node's calls, for every class: what a call makes of the slot of one stream is a function of that slot and
-- the counter alone. Everything that is proved of the bench knows the calls by these laws.
use Prim.Native.Nat.{ℕ, ◌+◌, ◌-◌, ◌*◌, ◌/◌, ◌%◌, ◌≤◌}
use native.Mathlib.Omega.{arith}
use mathlib.Core.Path.{◌≡◌, refl, ap, sym, subst, ◌∙◌}
use mathlib.Core.Logic.{◌⊎◌, inl, inr}
use mathlib.Core.Bool.{Bool, true, false, not, ◌&&◌, ◌||◌, cond}
use mathlib.Core.List.{List, [], ◌∷◌, ◌++◌, map}
use lib.ListN.{length}
use lib.Dec.{T, leb, eqb, eqb_refl, eqb→eq}
use mathlib.Core.List.Memᴰ
use mathlib.Core.List.{Memᴰ}
use Rattle.wire.specs.declared.ids.Stream.{Stream}
use Rattle.wire.specs.declared.ids.BusId.{BusId}
use Rattle.node.specs.declared.slots.Slot.{Slot}
use Rattle.node.specs.declared.Node.{Node}
use Rattle.wire.specs.Classes.{carries}
use Rattle.wire.specs.Frames.{is_bare}
use Rattle.wire.proofs.Frames.{IsFrame}
use Rattle.wire.specs.Identifiers.{max_stream, max_bus_id, stream_of, code_of, join}
use Rattle.wire.specs.Settings.{receives, sends, is_plain}
use Rattle.node.specs.Calls.{hear, tick, request, next_frame, outcome}
use Rattle.node.specs.Clock.{unbounded}
use Rattle.node.specs.Hear.{clashes, heard_by, delivered_at_once}
use Rattle.node.specs.NextFrame.{has_frame, lowest_code, lowest_given, give, given_out, payload_for}
use Rattle.node.specs.OldLayout.{one, pending_codes, payload_code, ids_from, pending_in, pending_ids, give_by_id}
use Rattle.node.specs.SlotOrder.{Distinct}
use Rattle.node.specs.Nodes.{slot_of, on_slot, Outcome}
use Rattle.node.specs.Reachable.{KeptSlot, All, InOrder, Kept}
use Rattle.node.specs.Request.{requested}
use Rattle.node.specs.Slots.{empty, payload_of, is_receiver, is_of, first, on_first, some}
use Rattle.node.specs.Tick.{late, due, tick_slot, due_slots, ticked}
use Rattle.node.proofs.Choices.{either_way, contrary, refuted}
use Rattle.node.proofs.Cases.{by_case}
use Rattle.node.proofs.hear.Cases.{HearFacts, takes_says, takes_back, hear_cases}
use Rattle.node.proofs.hear.Cases as node_hear
use Rattle.node.proofs.tick.Cases.{tick_cases}
use Rattle.node.proofs.request.Cases.{RequestFacts, accepts_says, accepts_back, request_cases}
use Rattle.node.proofs.request.Cases as node_request
use Rattle.node.proofs.next_frame.Cases.{next_cases}
use Rattle.node.proofs.tick.Ascending.{Before, Ascends, due_ascend, only_due, due_of_stream}
use Rattle.node.proofs.kept.EachSlot.{kept_empty}
use Rattle.node.proofs.tick.Tests.{Due, late_tells, due_tells}
use Rattle.node.proofs.slot_order.LowestOfAll.{lowest_or_above, lowest_is_one}
use Rattle.node.proofs.slots.InOrder.{in_order_distinct}
use Rattle.node.proofs.slot_order.NextFrameInOrder.{giver, giver_of_stream, next_by_id_cases}
use Rattle.node.proofs.slots.Streams.{Kind, KeepsKind, heard_keeps, requested_keeps, given_out_keeps, lowest_given_keeps, slot_of_changed, slot_of_ticked}
use Rattle.node.proofs.slots.Table.{all_weaken, all_first}
use Rattle.one_stream.proofs.Truth.{cond_elim, cond_true, cond_false, and_l, and_r, both, is_true, is_false, so, not_so}
use Rattle.bench.specs.Bench.{Delivery, same_stream, now}
use Rattle.bench.specs.Events.{lent, onto, deliveries}
use Rattle.bench.specs.Lists.{keep_only}
use Rattle.bench.specs.Rules.{keeps}
use Rattle.bench.specs.SetUp.{is_done}

-- ── the table: the first slot of a stream, after a change of the first slot of a stream ──
abbrev pub Same : Stream → Stream → Type 0
Same s z = s.0 ≡ z.0

pub same_stream_law : {s z : Stream} → Same s z → s ≡ z
same_stream_law e = λ i. record { 0 = e i }

is_of_kind : (s : Stream) (f : Slot → Slot) → KeepsKind f → (x : Slot) → is_of s (f x) ≡ is_of s x
is_of_kind s f keeps x = ap (λ (k : Kind). k.used && eqb k.stream.0 s.0) (keeps x)

-- a slot of one stream is not of another
not_of_both : (s z : Stream) → (Same s z → ⊥) → (x : Slot) → T (is_of z x) → is_of s x ≡ false
not_of_both s z other x t =
    is_false (is_of s x)
    (λ u. other (sym (eqb→eq x.stream.0 s.0 (and_r x.used (eqb x.stream.0 s.0) u))
    ∙ eqb→eq x.stream.0 z.0 (and_r x.used (eqb x.stream.0 z.0) t)))

module _ (f : Slot → Slot) (keeps : KeepsKind f) where
  first_other : (s z : Stream) → (Same s z → ⊥) → (xs : List Slot) → first (is_of s) (on_first (is_of z) f xs) ≡ first (is_of s) xs
  unfolding first on_first
  first_other s z other [] = refl
  first_other s z other (x ∷ xs) = go (is_of z x) (not_of_both s z other x) (first_other s z other xs)
    where
      go : (b : Bool) → (T b → is_of s x ≡ false) → first (is_of s) (on_first (is_of z) f xs) ≡ first (is_of s) xs
          → first (is_of s) (cond b (f x ∷ xs) (x ∷ on_first (is_of z) f xs)) ≡ cond (is_of s x) x (first (is_of s) xs)
      go true not_s rest = rw (is_of_kind s f keeps x, not_s tt) refl
      go false not_s rest = ap (cond (is_of s x) x) rest

  -- whatever the test, if the slot that it finds is of another stream
  first_elsewhere : (test : Slot → Bool) (s : Stream) (xs : List Slot) → is_of s (first test xs) ≡ false
      → first (is_of s) (on_first test f xs) ≡ first (is_of s) xs
  unfolding first on_first
  first_elsewhere test s [] other = refl
  first_elsewhere test s (x ∷ xs) other = go (test x) other (first_elsewhere test s xs)
    where
      go : (t : Bool) → is_of s (cond t x (first test xs)) ≡ false → (is_of s (first test xs) ≡ false → first (is_of s) (on_first test f xs) ≡ first (is_of s) xs)
          → first (is_of s) (cond t (f x ∷ xs) (x ∷ on_first test f xs)) ≡ cond (is_of s x) x (first (is_of s) xs)
      go true not_s rest = rw (is_of_kind s f keeps x, not_s) refl
      go false not_s rest = ap (cond (is_of s x) x) (rest not_s)

-- a slot that was found is of the stream, if it is in use
found : (s : Stream) (xs : List Slot) → T (first (is_of s) xs).used → T (is_of s (first (is_of s) xs))
unfolding first
found s [] t = t
found s (x ∷ xs) t = go (is_of s x) (λ u. u) (found s xs) t
  where
    go : (b : Bool) → (T b → T (is_of s x)) → (T (first (is_of s) xs).used → T (is_of s (first (is_of s) xs)))
        → T (cond b x (first (is_of s) xs)).used → T (is_of s (cond b x (first (is_of s) xs)))
    go true e rest t = e tt
    go false e rest t = rest t

-- ── one slot of a node ──
pub stream_of_slot : (s : Stream) (n : Node) → T (slot_of s n).used → (slot_of s n).stream ≡ s
stream_of_slot s n t =
    let x = slot_of s n in
    same_stream_law (eqb→eq x.stream.0 s.0 (and_r x.used (eqb x.stream.0 s.0) (found s n.slots t)))

pub slot_kept : (s : Stream) (n : Node) → Kept n → KeptSlot n.counter (slot_of s n)
slot_kept s n k = all_first (KeptSlot n.counter) (is_of s) (kept_empty n.counter) n.slots k.each

-- ── hearing ──
-- the slot takes the frame
abbrev pub takes : BusId → (dlc : ℕ) → List ℕ → Slot → Bool
takes id dlc p x = node_hear.takes id dlc p x

abbrev pub hearing : BusId → List ℕ → Node → Outcome
hearing id p n = outcome unbounded (hear id (length p) p lent) n

pub taken_facts : (id : BusId) (p : List ℕ) (x : Slot) → takes id (length p) p x ≡ true → HearFacts id (length p) p lent x
taken_facts id p x t = takes_says id (length p) p lent x (omega arith) t

-- a receiver takes a good frame that its class carries, unless the frame clashes
pub taken_unless_clash : (id : BusId) (p : List ℕ) (x : Slot) → IsFrame (is_bare id) id (length p) (length p) → is_receiver x ≡ true
    → carries x.settings.class (code_of id) ≡ true → takes id (length p) p x ≡ not (clashes (code_of id) p x)
taken_unless_clash id p x good own fits = go (clashes (code_of id) p x) refl
  where
    go : (c : Bool) → clashes (code_of id) p x ≡ c → takes id (length p) p x ≡ not c
    go true e = refuted (takes id (length p) p x) (λ t. contrary e (taken_facts id p x t).agrees)
    go false e = takes_back id (length p) p lent x (record { room = omega arith; good = good; own = own; fits = fits; agrees = e })

-- what hearing leaves in the node, and what it writes
pub hears : (id : BusId) (p : List ℕ) (n : Node) → (let s = stream_of id in
    let t = takes id (length p) p (slot_of s n) in
    ((hearing id p n).node ≡ cond t (on_slot s (heard_by n.counter (code_of id) p) n) n) × ((hearing id p n).bytes ≡ cond t (delivered_at_once id p) []))
hears id p n =
    let x = slot_of (stream_of id) n in
    let t = takes id (length p) p x in
    let law = hear_cases id (length p) p lent n in
    by_case {n = n} {result = node_hear.heard id (length p) p lent n}
    (λ (o : Outcome).
    (o.node ≡ cond t (on_slot (stream_of id) (heard_by n.counter (code_of id) p) n) n) × (o.bytes ≡ cond t (delivered_at_once id p) []))
    (λ r why. let no : t ≡ false = refuted t (λ h. law.not_both r why (taken_facts id p x h)) in rw no (refl, refl))
    (λ h. rw (takes_back id (length p) p lent x h) (refl, refl)) law.case

pub hear_own : (id : BusId) (p : List ℕ) (n : Node) → (let x = slot_of (stream_of id) n in
    slot_of (stream_of id) (hearing id p n).node ≡ cond (takes id (length p) p x) (heard_by n.counter (code_of id) p x) x)
hear_own id p n = ap (slot_of s) (hears id p n).0 ∙ go (takes id (length p) p x) (taken_facts id p x)
  where
    s : Stream
    s = stream_of id

    x : Slot
    x = slot_of s n

    go : (b : Bool) → (b ≡ true → HearFacts id (length p) p lent x)
        → slot_of s (cond b (on_slot s (heard_by n.counter (code_of id) p) n) n) ≡ cond b (heard_by n.counter (code_of id) p x) x
    go true h =
        slot_of_changed s (heard_by n.counter (code_of id) p) (heard_keeps n.counter (code_of id) p) n
        (is_true x.used (and_l x.used (receives x.settings) (so (h refl).own)))
    go false h = refl

pub hear_other : (s : Stream) (id : BusId) (p : List ℕ) (n : Node) → (Same s (stream_of id) → ⊥)
    → slot_of s (hearing id p n).node ≡ slot_of s n
hear_other s id p n other =
    ap (slot_of s) (hears id p n).0
    ∙ either_way (slot_of s) (takes id (length p) p (slot_of (stream_of id) n))
    (first_other (heard_by n.counter (code_of id) p) (heard_keeps n.counter (code_of id) p) s (stream_of id) other n.slots) refl

-- hearing delivers at once only what is plain
pub hear_bytes : (id : BusId) (p : List ℕ) (n : Node) → (T (eqb (code_of id) 3) → ⊥) → (hearing id p n).bytes ≡ []
unfolding delivered_at_once
hear_bytes id p n not_plain =
    (hears id p n).1
    ∙ either_way (λ (l : List ℕ). l) (takes id (length p) p (slot_of (stream_of id) n)) (cond_false (eqb (code_of id) 3) _ [] not_plain) refl

-- ── a tick ──
abbrev pub ticking : Node → Outcome
ticking n = outcome unbounded (tick lent) n

ticks : (n : Node) → (ticking n).node ≡ ticked unbounded n
ticks n = ap (λ (o : Outcome). o.node) ((tick_cases lent unbounded n).accepted_if (record { room = omega arith }))

pub tick_slot_law : (s : Stream) (n : Node) → slot_of s (ticking n).node ≡ tick_slot unbounded (n.counter + 1) (slot_of s n)
tick_slot_law s n = ap (slot_of s) (ticks n) ∙ slot_of_ticked unbounded s n

-- a slot that does not receive is neither late nor due
pub not_late_nor_due : (age : ℕ) (x : Slot) → is_receiver x ≡ false → (late age x ≡ false) × (due age x ≡ false)
not_late_nor_due age x deaf = (
  refuted (late age x) (λ t. let k = (late_tells age x).says t in contrary (receiver k.used k.receiver) deaf),
  refuted (due age x) (λ t. let k = (due_tells age x).says t in contrary (receiver k.used k.receiver) deaf),
)
  where
    receiver : x.used ≡ true → receives x.settings ≡ true → is_receiver x ≡ true
    receiver u r = rw (u, r)

-- ── a request ──
abbrev pub asking : Stream → List ℕ → Node → Outcome
asking s p n = outcome unbounded (request s p) n

-- the slot accepts it
abbrev pub accepts : List ℕ → Slot → Bool
accepts p x = node_request.accepts p x

-- what a request leaves in the node, and whether it is taken
asks : (s : Stream) (p : List ℕ) (n : Node) → (let t = accepts p (slot_of s n) in
    ((asking s p n).node ≡ cond t (on_slot s (requested n.counter p) n) n) × (is_done (asking s p n).reply ≡ t))
asks s p n =
    let x = slot_of s n in
    let t = accepts p x in
    let law = request_cases p s n in
    by_case {n = n} {result = node_request.taken p s n}
    (λ (o : Outcome). (o.node ≡ cond t (on_slot s (requested n.counter p) n) n) × (is_done o.reply ≡ t))
    (λ r why. let no : t ≡ false = refuted t (λ h. law.not_both r why (accepts_says p x h)) in rw no (refl, law.not_done r why))
    (λ h. rw (accepts_back p x h) (refl, refl)) law.case

pub ask_own : (s : Stream) (p : List ℕ) (n : Node) → (let x = slot_of s n in
    slot_of s (asking s p n).node ≡ cond (accepts p x) (requested n.counter p x) x)
ask_own s p n = ap (slot_of s) (asks s p n).0 ∙ go (accepts p x) (accepts_says p x)
  where
    x : Slot
    x = slot_of s n

    go : (b : Bool) → (b ≡ true → RequestFacts p x)
        → slot_of s (cond b (on_slot s (requested n.counter p) n) n) ≡ cond b (requested n.counter p x) x
    go true h =
        slot_of_changed s (requested n.counter p) (requested_keeps n.counter p) n
        (is_true x.used (and_l x.used (sends x.settings) (so (h refl).own)))
    go false h = refl

pub ask_other : (s z : Stream) (p : List ℕ) (n : Node) → (Same s z → ⊥) → slot_of s (asking z p n).node ≡ slot_of s n
ask_other s z p n other =
    ap (slot_of s) (asks z p n).0
    ∙ either_way (slot_of s) (accepts p (slot_of z n))
    (first_other (requested n.counter p) (requested_keeps n.counter p) s z other n.slots) refl

pub ask_reply : (s : Stream) (p : List ℕ) (n : Node) → is_done (asking s p n).reply ≡ accepts p (slot_of s n)
ask_reply s p n = (asks s p n).1

-- what led to a request that was taken
pub asked_facts : (s : Stream) (p : List ℕ) (n : Node) → T (is_done (asking s p n).reply) → RequestFacts p (slot_of s n)
asked_facts s p n =
    let law = request_cases p s n in
    by_case (λ (o : Outcome). T (is_done o.reply) → RequestFacts p (slot_of s n)) (λ r why t. absurd (not_so (law.not_done r why) t)) (λ h t. h)
    law.case

-- ── counters ──
abbrev counter_of : Node → ℕ
counter_of n = n.counter

pub hear_counter : (id : BusId) (p : List ℕ) (n : Node) → (hearing id p n).node.counter ≡ n.counter
hear_counter id p n = ap counter_of (hears id p n).0 ∙ either_way counter_of (takes id (length p) p (slot_of (stream_of id) n)) refl refl

pub tick_counter : (n : Node) → (ticking n).node.counter ≡ n.counter + 1
tick_counter n = ap counter_of (ticks n)

pub ask_counter : (s : Stream) (p : List ℕ) (n : Node) → (asking s p n).node.counter ≡ n.counter
ask_counter s p n = ap counter_of (asks s p n).0 ∙ either_way counter_of (accepts p (slot_of s n)) refl refl

-- ── the next frame ──
abbrev pub giving : Node → Outcome
giving n = outcome unbounded (next_frame lent) n

-- a frame with this code is pending in the slot
pub data IsPending (x : Slot) : (code : ℕ) → Type 0 where
  the_payload : T x.pending.payload → IsPending x (payload_code x)
  the_confirmation : T x.pending.confirmation → IsPending x 1
  the_abort : T x.pending.abort → IsPending x 2

-- the codes of pending frames are codes
record PendingCode (x : Slot) (i stream : ℕ) : Type 0 where
  pub code : ℕ
  pub small : code ≤ 3
  pub is : i ≡ stream * 4 + code
  pub pending : IsPending x code

codes_in : (x : Slot) (i stream : ℕ) → Memᴰ i (ids_from stream (pending_codes x)) → PendingCode x i stream
codes_in x i stream = go x.pending.payload x.pending.confirmation x.pending.abort the_payload the_confirmation the_abort
  where
    -- the first of some identifiers, or one of the others
    first_or : (code : ℕ) (codes : List ℕ) → code ≤ 3 → IsPending x code → (Memᴰ i (ids_from stream codes) → PendingCode x i stream)
        → Memᴰ i (ids_from stream (code ∷ codes)) → PendingCode x i stream
    first_or code codes small p rest m = by (Memᴰ.cases_cons m)
      where
        by : (i ≡ stream * 4 + code) ⊎ Memᴰ i (ids_from stream codes) → PendingCode x i stream
        by (inl e) = record { code = code; small = small; is = e; pending = p }
        by (inr m) = rest m

    third : (c : Bool) → (T c → IsPending x 2) → Memᴰ i (ids_from stream (one c 2)) → PendingCode x i stream
    third true pc = first_or 2 [] (omega arith) (pc tt) (λ m. absurd (Memᴰ.not-nil m))
    third false pc = λ m. absurd (Memᴰ.not-nil m)

    second : (b c : Bool) → (T b → IsPending x 1) → (T c → IsPending x 2) → Memᴰ i (ids_from stream (one b 1 ++ one c 2))
        → PendingCode x i stream
    second true c pb pc = first_or 1 (one c 2) (omega arith) (pb tt) (third c pc)
    second false c pb pc = third c pc

    small_code : payload_code x ≤ 3
    small_code = cond_elim (λ n. n ≤ 3) (is_plain x.settings) (λ t. omega arith) (λ t. omega arith)

    go : (a b c : Bool) → (T a → IsPending x (payload_code x)) → (T b → IsPending x 1) → (T c → IsPending x 2)
        → Memᴰ i (ids_from stream (one a (payload_code x) ++ one b 1 ++ one c 2)) → PendingCode x i stream
    go true true c pa pb pc = first_or (payload_code x) (one true 1 ++ one c 2) small_code (pa tt) (second true c pb pc)
    go true false c pa pb pc = first_or (payload_code x) (one c 2) small_code (pa tt) (second false c pb pc)
    go false b c pa pb pc = second b c pb pc

-- what is pending under an identifier is in the slot of its stream
record PendingIn (i : ℕ) (xs : List Slot) : Type 0 where
  pub used : T (first (is_of (record { 0 = i / 4 })) xs).used
  pub pending : IsPending (first (is_of (record { 0 = i / 4 })) xs) (i % 4)

is_of_some : (s : Stream) (xs : List Slot) → T (first (is_of s) xs).used → T (some (is_of s) xs)
unfolding first some
is_of_some s [] t = t
is_of_some s (x ∷ xs) t = go (is_of s x) (is_of_some s xs) t
  where
    go : (b : Bool) → (T (first (is_of s) xs).used → T (some (is_of s) xs)) → T (cond b x (first (is_of s) xs)).used
        → T (b || some (is_of s) xs)
    go true rest t = tt
    go false rest t = rest t

pending_in_law : (i : ℕ) (xs : List Slot) → Distinct xs → Memᴰ i (pending_ids xs) → PendingIn i xs
unfolding pending_ids pending_in first
pending_in_law i [] d h = absurd (Memᴰ.not-nil h)
pending_in_law i (x ∷ xs) d h = go (Memᴰ.append_cases (pending_in x) h) (pending_in_law i xs d.1)
  where
    s : Stream
    s = record { 0 = i / 4 }

    here : Memᴰ i (pending_in x) → PendingIn i (x ∷ xs)
    here = cond_elim (λ is. Memᴰ i is → PendingIn i (x ∷ xs)) (x.used && leb x.stream.0 max_stream)
        (λ t h.
        let c = codes_in x i x.stream.0 h in
        let used = and_l x.used (leb x.stream.0 max_stream) t in
        let stream : x.stream.0 ≡ i / 4 = omega (arith, c.is, c.small) in
        let code : c.code ≡ i % 4 = omega (arith, c.is, c.small) in
        let found : is_of s x ≡ true = is_true (is_of s x)
        (both x.used (eqb x.stream.0 (i / 4)) used
        (subst (λ z. T (eqb x.stream.0 z)) stream (eqb_refl x.stream.0))) in
        record { used = rw found used; pending = rw found (subst (IsPending x) code c.pending) })
        (λ t h. absurd (Memᴰ.not-nil h))

    there : PendingIn i xs → PendingIn i (x ∷ xs)
    there r = other (is_of s x) refl
      where
        other : (b : Bool) → is_of s x ≡ b → PendingIn i (x ∷ xs)
        other false e = record { used = rw e r.used; pending = rw e r.pending }
        other true e =
            let t = so e in
            let used = is_true x.used (and_l x.used (eqb x.stream.0 (i / 4)) t) in
            let same = same_stream_law (eqb→eq x.stream.0 (i / 4) (and_r x.used (eqb x.stream.0 (i / 4)) t)) in
            absurd (not_so (d.0 used) (subst (λ z. T (some (is_of z) xs)) (sym same) (is_of_some s xs r.used)))

    go : Memᴰ i (pending_in x) ⊎ Memᴰ i (pending_ids xs) → (Memᴰ i (pending_ids xs) → PendingIn i xs) → PendingIn i (x ∷ xs)
    go (inl h) rest = here h
    go (inr h) rest = there (rest h)

-- the module has a next frame
module _ (n : Node) (k : Kept n) (given : T (is_done (giving n).reply)) where
  abbrev low : ℕ
  low = lowest_or_above (pending_ids n.slots)

  gave_low : (giving n ≡ give_by_id (record { 0 = low }) n) × (low ≤ max_bus_id)
  gave_low =
      let law = next_by_id_cases lent n k.in_order in
      by_case (λ (o : Outcome). T (is_done o.reply) → (o ≡ give_by_id (record { 0 = low }) n) × (low ≤ max_bus_id))
      (λ r why done. absurd (not_so (law.not_done r why) done)) (λ h done. (refl, h.pending)) law.case given

  gave : giving n ≡ give_by_id (record { 0 = low }) n
  gave = gave_low.0

  low_small : low ≤ max_bus_id
  low_small = gave_low.1

  where_pending : PendingIn low n.slots
  where_pending = pending_in_law low n.slots (in_order_distinct n.slots k.in_order) (lowest_is_one (pending_ids n.slots) low_small)

  abbrev next_stream : Stream
  next_stream = stream_of (giving n).id

  abbrev next_code : ℕ
  next_code = code_of (giving n).id

  id_is : (giving n).id ≡ record { 0 = low }
  unfolding give_by_id
  id_is = ap (λ (o : Outcome). o.id) gave

  pub next_used : T (slot_of next_stream n).used
  next_used = subst (λ (id : BusId). T (slot_of (stream_of id) n).used) (sym id_is) where_pending.used

  pub next_pending : IsPending (slot_of next_stream n) next_code
  next_pending = subst (λ (id : BusId). IsPending (slot_of (stream_of id) n) (code_of id)) (sym id_is) where_pending.pending

  pub next_own : slot_of next_stream (giving n).node ≡ given_out next_code (slot_of next_stream n)
  unfolding give_by_id
  next_own =
      subst (λ (id : BusId). slot_of (stream_of id) (giving n).node ≡ given_out (code_of id) (slot_of (stream_of id) n)) (sym id_is)
      (ap (λ (o : Outcome). slot_of (record { 0 = low / 4 }) o.node) gave
      ∙ slot_of_changed (record { 0 = low / 4 }) (given_out (low % 4)) (given_out_keeps (low % 4)) n
      (is_true (slot_of (record { 0 = low / 4 }) n).used where_pending.used))

  pub next_bytes : (giving n).bytes ≡ payload_for next_code (slot_of next_stream n)
  unfolding give_by_id
  next_bytes =
      subst (λ (id : BusId). (giving n).bytes ≡ payload_for (code_of id) (slot_of (stream_of id) n)) (sym id_is)
      (ap (λ (o : Outcome). o.bytes) gave)

pub next_other : (s : Stream) (n : Node) → (Same s (stream_of (giving n).id) → ⊥) → slot_of s (giving n).node ≡ slot_of s n
unfolding give
next_other s n =
    by_case (λ (o : Outcome). (Same s (stream_of o.id) → ⊥) → slot_of s o.node ≡ slot_of s n) (λ r why other. refl)
    (λ h other.
    let x = giver n in
    first_elsewhere lowest_given lowest_given_keeps has_frame s n.slots
    (not_of_both s (stream_of (join x.stream (lowest_code x)).id) other x (so (giver_of_stream n h.pending))))
    (next_cases lent n).case

pub next_counter : (n : Node) → (giving n).node.counter ≡ n.counter
unfolding give
next_counter n = by_case (λ (o : Outcome). o.node.counter ≡ n.counter) (λ r why. refl) (λ h. refl) (next_cases lent n).case

-- ── what a tick delivers of one stream ──
abbrev of_stream : Stream → Slot → Bool
of_stream s x = same_stream x.stream s

abbrev keep_slots : Stream → List Slot → List Slot
keep_slots s xs = keep_only (of_stream s) xs

-- in a list that ascends by stream there is one slot of a stream, the first
keep_none : (s : Stream) (x : Slot) → of_stream s x ≡ true → (xs : List Slot) → All (Before x) xs → keep_slots s xs ≡ []
keep_none s x own [] above = refl
keep_none s x own (y ∷ ys) above =
    let here = eqb→eq x.stream.0 s.0 (so own) in
    let not_s : of_stream s y ≡ false =
    is_false (of_stream s y) (λ t. let e = eqb→eq y.stream.0 s.0 t in omega (arith, above.0)) in
    rw not_s (keep_none s x own ys above.1)

keep_one : (s : Stream) (xs : List Slot) → Ascends xs → All (λ x. x.used ≡ true) xs
    → (let x = first (is_of s) xs in keep_slots s xs ≡ cond x.used (x ∷ []) [])
unfolding first
keep_one s [] a used = refl
keep_one s (x ∷ xs) a used = go (of_stream s x) refl (keep_one s xs a.1 used.1)
  where
    go : (o : Bool) → of_stream s x ≡ o → (let y = first (is_of s) xs in keep_slots s xs ≡ cond y.used (y ∷ []) [])
        → (let y = cond (x.used && of_stream s x) x (first (is_of s) xs) in cond o (x ∷ keep_slots s xs) (keep_slots s xs) ≡ cond y.used (y ∷ []) [])
    go true e rest =
        ap (λ l. x ∷ l) (keep_none s x e xs a.0)
        ∙ sym (ap (λ (y : Slot). cond y.used (y ∷ []) [])
        (cond_true (x.used && of_stream s x) x (first (is_of s) xs) (both x.used (of_stream s x) (so used.0) (so e)))
        ∙ cond_true x.used (x ∷ []) [] (so used.0))
    go false e rest =
        rest
        ∙ sym (ap (λ (y : Slot). cond y.used (y ∷ []) [])
        (cond_false (x.used && of_stream s x) x (first (is_of s) xs) (λ t. not_so e (and_r x.used (of_stream s x) t))))

own_due : (now : ℕ) (s : Stream) (xs : List Slot) → InOrder xs → (let x = first (is_of s) xs in
    keep_slots s (due_slots unbounded now xs) ≡ cond (due (now - x.message.stamp) x) (x ∷ []) [])
own_due now s xs h =
    keep_one s (due_slots unbounded now xs) (due_ascend unbounded now xs h)
    (all_weaken (λ x. Due (now - x.message.stamp) x) (λ x. x.used ≡ true) (λ x e. e.used) (due_slots unbounded now xs)
    (only_due unbounded now xs))
    ∙ (ap (λ (y : Slot). cond y.used (y ∷ []) []) (due_of_stream unbounded now s xs (in_order_distinct xs h)) ∙ go (due (now - x.message.stamp) x) refl)
  where
    x : Slot
    x = first (is_of s) xs

    go : (b : Bool) → due (now - x.message.stamp) x ≡ b → cond (cond b x empty).used (cond b x empty ∷ []) [] ≡ cond b (x ∷ []) []
    go true e = rw ((due_tells (now - x.message.stamp) x).says e).used refl
    go false e = refl

-- the deliveries of a log on one stream
abbrev pub on_stream : Stream → List Delivery → List Delivery
on_stream s log = keep_only (λ (d : Delivery). same_stream d.stream s) log

pub onto_stream : (s : Stream) (ds log : List Delivery) → on_stream s (onto ds log) ≡ onto (on_stream s ds) (on_stream s log)
onto_stream s [] log = refl
onto_stream s (d ∷ ds) log = onto_stream s ds (d ∷ log) ∙ go (same_stream d.stream s)
  where
    go : (b : Bool)
        → onto (on_stream s ds) (cond b (d ∷ on_stream s log) (on_stream s log)) ≡ onto (cond b (d ∷ on_stream s ds) (on_stream s ds))
        (on_stream s log)
    go true = refl
    go false = refl

abbrev pub delivery_of : ℕ → Slot → Delivery
delivery_of t x = record { at = t; stream = x.stream; payload = payload_of x.message }

stream_deliveries : (s : Stream) (t : ℕ) (xs : List Slot) → on_stream s (map (delivery_of t) xs) ≡ map (delivery_of t) (keep_slots s xs)
stream_deliveries s t [] = refl
stream_deliveries s t (x ∷ xs) = go (of_stream s x) (stream_deliveries s t xs)
  where
    go : (b : Bool) → on_stream s (map (delivery_of t) xs) ≡ map (delivery_of t) (keep_slots s xs)
        → cond b (delivery_of t x ∷ on_stream s (map (delivery_of t) xs)) (on_stream s (map (delivery_of t) xs)) ≡ map (delivery_of t)
        (cond b (x ∷ keep_slots s xs) (keep_slots s xs))
    go true rest = ap (λ l. delivery_of t x ∷ l) rest
    go false rest = rest

pub tick_delivers : (s : Stream) (n : Node) → Kept n → (log : List Delivery) → (let x = slot_of s n in
    on_stream s (onto (deliveries unbounded n) log)
    ≡ cond (due (n.counter + 1 - x.message.stamp) x) (delivery_of (n.counter + 1) x ∷ on_stream s log) (on_stream s log))
tick_delivers s n k log =
    onto_stream s (deliveries unbounded n) log
    ∙ (ap (λ ds. onto ds (on_stream s log))
    (stream_deliveries s (n.counter + 1) (due_slots unbounded (n.counter + 1) n.slots)
    ∙ ap (map (delivery_of (n.counter + 1))) (own_due (n.counter + 1) s n.slots k.in_order))
    ∙ go (due (n.counter + 1 - (slot_of s n).message.stamp) (slot_of s n)))
  where
    go : (b : Bool) → onto (map (delivery_of (n.counter + 1)) (cond b (slot_of s n ∷ []) [])) (on_stream s log)
        ≡ cond b (delivery_of (n.counter + 1) (slot_of s n) ∷ on_stream s log) (on_stream s log)
    go true = refl
    go false = refl
