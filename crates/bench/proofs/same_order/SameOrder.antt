-- SAME ORDER: two receivers that both deliver two messages whose data each had a full sending deliver them in the same order. Each message
-- has one tick at which any module delivers it, and logs go by tick and stream.
use Prim.Native.Nat.{ℕ, suc, ◌+◌}
use native.Mathlib.Omega.{arith}
use mathlib.Core.Path.{◌≡◌, refl, ap, sym, subst, ◌∙◌}
use mathlib.Core.Logic.{inl, inr}
use mathlib.Core.Bool.{Bool, true, false, not, cond, ◌&&◌}
use mathlib.Core.List.{List, [], ◌∷◌, ◌++◌, map}
use lib.ListN.{length}
use lib.Dec.{T, eqb, eqb→eq, not_T}
use Rattle.wire.specs.declared.ids.Stream.{Stream}
use Rattle.wire.specs.Settings.{is_plain}
use Rattle.node.specs.Clock.{unbounded}
use Rattle.node.specs.Slots.{is_receiver}
use Rattle.node.proofs.kept.EachSlot.{two_not_plain}
use Rattle.node.proofs.Choices.{either_way}
use Rattle.one_stream.proofs.Truth.{and_l, and_r, is_true, not_so}
use Rattle.bench.specs.Lists.{nth}
use Rattle.bench.specs.Bench.{Module, Bench, Delivery, same_stream, module_at, is_live, slot_at, book_of, no_book, now, frame_of, owner_of}
use Rattle.bench.specs.SetUp.{Plan, proper, start}
use Rattle.bench.specs.Events.{Event, asks, gives, sends, ticks, dies, named, is_accepted, is_next, onto, at_once, deliveries, step, run}
use Rattle.bench.specs.Rules.{keeps_so_far}
use Rattle.bench.specs.Demands.{tick_count, delivered, Has, MessageIn, at_request, at_moment, its_book, FullData, Delivers}
use Rattle.bench.specs.Demands.{just_asked, SameOrder}
use Rattle.bench.proofs.laws.SlotAfterCall.{same_stream_law, on_stream}
use Rattle.bench.proofs.laws.ModuleAfterEvent.{step_module, module_step, count_of}
use Rattle.bench.proofs.laws.BooksAfterEvent.{books_asked}
use Rattle.bench.proofs.laws.AtStart.{count_at_start}
use Rattle.bench.proofs.laws.TicksCounted.{to_the_end, live_back, count_step, count_run}
use Rattle.bench.proofs.message.SendingsSeen.{to_sent, full_was}
use Rattle.bench.proofs.message.ClassOnBench.{to_delays}
use Rattle.bench.proofs.message.ModuleSeen.{to_note, notes}
use Rattle.bench.proofs.message.SeenAfterOwnEvent.{valid_step}
use Rattle.bench.proofs.message.NewestData.{data_of}
use Rattle.bench.proofs.message.RequestOpens.{logs_of}
use Rattle.bench.proofs.message.AcceptedRequest.{Requested}
use Rattle.bench.proofs.message.MessageOfHistory.{its_request}
use Rattle.bench.proofs.two_message.TwoMessageOnBench.{fits, two_message_on_bench}
use Rattle.bench.proofs.same_order.LogOrder.{Earlier, receives_plain, timed_at, in_order, log_order, earlier_before}
use Rattle.bench.proofs.same_order.DeliveryTicks.{Told, not_yet, told, Timed, timed_run}
use Rattle.one_stream.specs.Sendings as OS
use Rattle.one_stream.specs.Classes as OC

-- ── what was delivered stays in the log ──
has_onto : (d : Delivery) (ds log : List Delivery) → Has d log → Has d (onto ds log)
has_onto d [] log h = h
has_onto d (x ∷ ds) log h = has_onto d ds (x ∷ log) (inr h)

has_step : (d : Delivery) (b : Bench) (e : Event) (i : ℕ) → Has d (module_at i b).log → Has d (module_at i (step b e)).log
has_step d b e i h = subst (λ (m : Module). Has d m.log) (sym (module_step b e i)) (go e)
  where
    m : Module
    m = module_at i b

    if : (t : Bool) (m' : Module) → Has d m'.log → Has d (cond t m' m).log
    if true m' k = k
    if false m' k = h

    go : (e : Event) → Has d (step_module b e i m).log
    go (asks j z p) = if (is_accepted j z p b && eqb i j) _ h
    go (gives j z c) = if (is_next j z c b && eqb i j) _ h
    go (sends z n w to) =
        if (m.live && named to i && not (eqb i (owner_of w (book_of z n b)))) _ (has_onto d (at_once (frame_of w (book_of z n b)) m) m.log h)
    go ticks = if m.live _ (has_onto d (deliveries unbounded m.node) m.log h)
    go (dies j) = if (eqb i j) _ h

has_run : (d : Delivery) (h : List Event) (b : Bench) (i : ℕ) → Has d (module_at i b).log → Has d (module_at i (run b h)).log
has_run d [] b i k = k
has_run d (e ∷ es) b i k = has_run d es (step b e) i (has_step d b e i k)

-- the newest delivery of a stream
module _ (s : Stream) (d : Delivery) (rest : List Delivery) where
  newest_of : (log : List Delivery) → on_stream s log ≡ d ∷ rest → Has d log × (d.stream ≡ s)
  newest_of [] e = let z : ◌≡◌ {A = ℕ} 0 1 = cc in absurd (omega arith)
  newest_of (x ∷ log) e = go (same_stream x.stream s) (eqb→eq x.stream.0 s.0) e (newest_of log)
    where
      go : (own : Bool) → (T own → x.stream.0 ≡ s.0) → cond own (x ∷ on_stream s log) (on_stream s log) ≡ d ∷ rest
          → (on_stream s log ≡ d ∷ rest → Has d log × (d.stream ≡ s)) → Has d (x ∷ log) × (d.stream ≡ s)
      go true own e later = let q : x ≡ d = cc in (inl q, subst (λ (x : Delivery). x.stream ≡ s) q (same_stream_law (own tt)))
      go false own e later = let r = later e in (inr r.0, r.1)

-- a module delivers a message: in its log stands d, of its stream, at this tick
record DeliversAt (plan : Plan) (h : List Event) (s : Stream) (t i : ℕ) (d : Delivery) : Type 0 where
  logged : Has d (module_at i (run (start plan) h)).log
  timed : T (timed_at plan i d.stream)
  stream : d.stream ≡ s
  tick : d.at ≡ t

-- ── one message: requested in b₁, seen in b₃ ──
module _ (plan : Plan) (ok : T (proper plan)) (h : List Event) (keeps : T (keeps_so_far (start plan) h)) (m : MessageIn (start plan) h)
    (k : FullData (start plan) h m) where
  abbrev b₀ : Bench
  b₀ = start plan

  abbrev b₁ : Bench
  b₁ = at_request b₀ h m

  abbrev b₂ : Bench
  b₂ = just_asked b₀ h m

  abbrev b₃ : Bench
  b₃ = at_moment b₀ h m

  abbrev s : Stream
  s = m.stream

  q : Requested two_message_on_bench plan m.before (m.since ++ m.rest) m.sender s m.payload
  q = its_request two_message_on_bench plan ok h keeps m k.two_message

  abbrev D : OS.Delays
  D = to_delays q.settings

  -- no receiver of the stream receives it as plain frames
  is_timed : (i : ℕ) → T (timed_at plan i s)
  is_timed i = not_T (receives_plain s (module_at i b₀).node) (λ t.
      let x = slot_at s i b₀ in
      not_so (two_not_plain x.settings (is_true _ (q.at_start.receivers i (and_l (is_receiver x) (is_plain x.settings) t)).class))
      (and_r (is_receiver x) (is_plain x.settings) t))

  -- what each module has delivered of it, at once after the request and at its moment
  abbrev TimedIn : Bench → Type 0
  TimedIn b = Timed D s m.sender m.payload (logs_of s b₁) b

  timed₂ : TimedIn b₂
  unfolding to_sent
  timed₂ =
      record {
        even = λ i j l r. omega (arith, count i l, count j r);
        last = λ some.
            absurd (subst (λ ks. OS.Some (data_of (nth no_book 0 ks))) (books_asked s b₁ q.at_request.ledger m.sender m.payload m.accepted) some);
        logs = λ i. not_yet (ap (λ (x : Module). notes s x.log) (module_step b₁ request i)
            ∙ either_way (λ (x : Module). notes s x.log) (is_accepted m.sender s m.payload b₁ && eqb i m.sender) refl refl);
      }
    where
      request : Event
      request = asks m.sender s m.payload

      count : (i : ℕ) → T (is_live i b₂) → count_of b₂ i ≡ tick_count m.before
      count i l = omega (arith, count_step b₁ request i l, (count_run m.before b₀ i (live_back b₁ request i l)).0, count_at_start plan i)

  timed₃ : TimedIn b₃
  timed₃ =
      timed_run D s m.sender m.payload (logs_of s b₁) (fits s q.settings q.of q.lawful) (now b₁) b₂
      (valid_step (asks m.sender s m.payload) q.at_request) q.track m.since m.rest q.keeps_on k.newest timed₂

  -- every module that delivers it does so dd + 1 ticks after the last sending of its data, which was full
  its_tick : ℕ
  its_tick = OS.last (data_of (its_book b₀ h m)) m.sender + D.dd + 1

  one_tick : (i : ℕ) (d : Delivery) → Delivers b₀ h m i d → d.at ≡ its_tick
  unfolding its_tick
  one_tick i d e = go (timed₃.logs i)
    where
      go : Told D s m.sender m.payload (logs_of s b₁) (its_book b₀ h m) i (notes s (module_at i b₃).log)
          → d.at ≡ OS.last (data_of (its_book b₀ h m)) m.sender + D.dd + 1
      go (not_yet q) =
          let long : length (logs_of s b₁ i) ≡ suc (length (logs_of s b₁ i)) = ap length (sym q ∙ ap (map to_note) e) in
          let z : ⊥ = omega arith in absurd z
      go (told t q conf when) =
          let same : to_note d ∷ logs_of s b₁ i ≡ record { at = t; bytes = m.payload } ∷ logs_of s b₁ i = sym (ap (map to_note) e) ∙ q in
          let note : to_note d ≡ record { at = t; bytes = m.payload } = cc in
          ap (λ (n : OC.Note). n.at) note ∙ when (full_was (its_book b₀ h m).payload_frame k.full)

  delivers_at : (i : ℕ) (d : Delivery) → Delivers b₀ h m i d → DeliversAt plan h s its_tick i d
  delivers_at i d e =
      let newest = newest_of s d (delivered s i b₁) (module_at i b₃).log e in
      record {
        logged = subst (λ (b : Bench). Has d (module_at i b).log) (sym (to_the_end b₀ h m)) (has_run d m.rest b₃ i newest.0);
        timed = subst (λ z. T (timed_at plan i z)) (sym newest.1) (is_timed i);
        stream = newest.1;
        tick = one_tick i d e;
      }

-- ── two messages ──
-- the order depends on ticks and streams alone
earlier_alike : (d e d' e' : Delivery) → d'.at ≡ d.at → d'.stream ≡ d.stream → e'.at ≡ e.at → e'.stream ≡ e.stream → Earlier d e → Earlier d' e'
earlier_alike d e d' e' p q r t = go (ap (λ (z : Stream). z.0) q) (ap (λ (z : Stream). z.0) t)
  where
    go : d'.stream.0 ≡ d.stream.0 → e'.stream.0 ≡ e.stream.0 → Earlier d e → Earlier d' e'
    go q t (inl x) = inl (omega arith)
    go q t (inr (x, y)) = inr (omega arith, omega arith)

pub same_order : SameOrder
same_order plan ok h keeps m n k k' i j d d' e e' x x' y y' before =
    let a = delivers_at plan ok h keeps m k i d x in
    let a' = delivers_at plan ok h keeps m k j d' x' in
    let c = delivers_at plan ok h keeps n k' i e y in
    let c' = delivers_at plan ok h keeps n k' j e' y' in
    earlier_before (timed_at plan j) d' e' (module_at j (run (start plan) h)).log (in_order plan ok h j) a'.timed c'.timed a'.logged c'.logged
    (earlier_alike d e d' e' (a'.tick ∙ sym a.tick) (a'.stream ∙ sym a.stream) (c'.tick ∙ sym c.tick) (c'.stream ∙ sym c.stream)
    (log_order plan ok h i d e a.timed c.timed before))
