-- Demand 3 and what goes with it, as statements about every history that keeps the bench rules.
use Rattle.std.specs.Prelude.{ℕ, ◌+◌, ◌<◌, ◌≡◌, ◌⊎◌, Bool, true, false, not, ◌&&◌, List, [], ◌∷◌, ◌++◌, T}
use Rattle.wire.specs.declared.ids.Stream.{Stream}
use Rattle.wire.specs.declared.settings.Settings.{Settings}
use Rattle.wire.specs.Settings.{is_two_message}
use Rattle.node.specs.Slots.{is_receiver}
use Rattle.node.specs.Tick.{hold_length}
use Rattle.bench.specs.Lists.{keep_only}
use Rattle.bench.specs.Bench.{Book, Delivery, Bench, same_stream, module_at, is_live, slot_at, now, book_of}
use Rattle.bench.specs.SetUp.{Plan, proper, start}
use Rattle.bench.specs.Events.{Event, asks, gives, sends, ticks, dies, is_accepted, step, run}
use Rattle.bench.specs.Rules.{was_full, one, one_omission, keeps_so_far, keeps}

-- ── what a module delivered ──
-- of one stream, the newest first
abbrev pub delivered : Stream → ℕ → Bench → List Delivery
delivered s i b = keep_only (λ (d : Delivery). same_stream d.stream s) (module_at i b).log

-- a live module with a receive slot for the stream; its sender is none
abbrev pub live_receiver : Stream → Bench → ℕ → Bool
live_receiver s b i = is_live i b && is_receiver (slot_at s i b)

-- ── a message of a history ──
abbrev pub is_tick : Event → Bool
is_tick (asks i s payload) = false
is_tick (gives i s code) = false
is_tick (sends s message w to) = false
is_tick ticks = true
is_tick (dies i) = false

abbrev pub tick_count : List Event → ℕ
tick_count [] = 0
tick_count (e ∷ es) = one (is_tick e) + tick_count es

-- the event is an accepted request of the stream
abbrev pub accepts : Stream → Bench → Event → Bool
accepts s b (asks i z payload) = same_stream z s && is_accepted i z payload b
accepts s b (gives i z code) = false
accepts s b (sends z message w to) = false
accepts s b ticks = false
accepts s b (dies i) = false

abbrev pub none_accepted : Stream → Bench → List Event → Bool
none_accepted s b [] = true
none_accepted s b (e ∷ es) = not (accepts s b e) && none_accepted s (step b e) es

-- An accepted request, and the moment at which the message is looked at: after the events `since`. The rest comes later.
pub record MessageIn (b₀ : Bench) (h : List Event) : Type 0 where
  pub before : List Event
  pub sender : ℕ
  pub stream : Stream
  pub payload : List ℕ
  pub since : List Event
  pub rest : List Event
  pub split : h ≡ before ++ (asks sender stream payload ∷ (since ++ rest))
  pub accepted : T (is_accepted sender stream payload (run b₀ before))

module _ (b₀ : Bench) (h : List Event) (m : MessageIn b₀ h) where
  -- the bench when the message was asked for, just after that, and at the moment
  abbrev pub at_request : Bench
  at_request = run b₀ m.before

  abbrev pub just_asked : Bench
  just_asked = step at_request (asks m.sender m.stream m.payload)

  abbrev pub at_moment : Bench
  at_moment = run just_asked m.since

  abbrev pub its_settings : Settings
  its_settings = (slot_at m.stream m.sender at_request).settings

  -- it is a two-message message
  abbrev pub TwoMessage : Type 0
  TwoMessage = T (is_two_message its_settings)

  -- no other request of its stream was accepted since
  abbrev pub Newest : Type 0
  Newest = T (none_accepted m.stream just_asked m.since)

  -- the book of its stream's newest message
  abbrev pub its_book : Book
  its_book = book_of m.stream 0 at_moment

  -- since the request the module has delivered it once, and nothing else on its stream
  abbrev pub DeliveredOnce : ℕ → Type 0
  DeliveredOnce i =
      (t : ℕ) × (delivered m.stream i at_moment ≡ record { at = t; stream = m.stream; payload = m.payload } ∷ delivered m.stream i at_request)

  abbrev pub DeliveredNot : ℕ → Type 0
  DeliveredNot i = delivered m.stream i at_moment ≡ delivered m.stream i at_request

  -- ── judgement ──
  -- of the receivers that are judged, all have delivered it once or none has; and all, if its data and its confirmation each had a full sending
  pub record Atomic (Judged : ℕ → Type 0) : Type 0 where
    pub all_or_none : ((i : ℕ) → Judged i → DeliveredOnce i) ⊎ ((i : ℕ) → Judged i → DeliveredNot i)
    pub all_if_full : T (was_full its_book.payload_frame) → T (was_full its_book.confirmation) → (i : ℕ) → Judged i → DeliveredOnce i

  -- the live receivers
  abbrev pub LiveNow : ℕ → Type 0
  LiveNow i = T (live_receiver m.stream at_moment i)

  -- the module has counted Rd + dd ticks and one more since the request
  abbrev pub HasCounted : ℕ → Type 0
  HasCounted i = (module_at i at_request).node.counter + hold_length its_settings < (module_at i at_moment).node.counter

  -- the moment is a tick: the next after Rd + dd ticks, among other events, since the request
  pub record OneTickBeyond : Type 0 where
    pub earlier : List Event
    pub last : m.since ≡ earlier ++ (ticks ∷ [])
    pub long : tick_count earlier ≡ hold_length its_settings

  -- its book was opened by its request, and its data carries its payload
  pub record OwnBook : Type 0 where
    pub sender : its_book.sender ≡ m.sender
    pub since : its_book.payload_frame.since ≡ now at_request
    pub payload : T its_book.payload_frame.given → its_book.payload_frame.payload ≡ m.payload

-- DEMAND 3, BY COUNTS. At any moment before the next request of the stream is accepted, each live receiver is judged once it has counted Rd + dd
-- ticks and one more since the request. Rule 2's one omission is asked of the judged message alone.
abbrev pub Demand3ByCounts : Type 0
Demand3ByCounts =
    (plan : Plan) → T (proper plan) → (h : List Event) → T (keeps_so_far (start plan) h)
    → (m : MessageIn (start plan) h) → TwoMessage (start plan) h m → Newest (start plan) h m → T (one_omission (its_book (start plan) h m))
    → Atomic (start plan) h m (λ i. LiveNow (start plan) h m i × HasCounted (start plan) h m i)

-- DEMAND 3: with common ticks all live receivers are judged at one tick
abbrev pub Demand3 : Type 0
Demand3 =
    (plan : Plan) → T (proper plan) → (h : List Event) → T (keeps_so_far (start plan) h)
    → (m : MessageIn (start plan) h) → TwoMessage (start plan) h m → OneTickBeyond (start plan) h m → T (one_omission (its_book (start plan) h m))
    → Atomic (start plan) h m (LiveNow (start plan) h m)

-- the same where the whole history keeps all the rules
abbrev pub Demand3WholeHistory : Type 0
Demand3WholeHistory =
    (plan : Plan) → T (proper plan) → (h : List Event) → T (keeps (start plan) h)
    → (m : MessageIn (start plan) h) → TwoMessage (start plan) h m → OneTickBeyond (start plan) h m
    → Atomic (start plan) h m (LiveNow (start plan) h m)

-- THE JUDGED BOOK is the message's own: no other request was accepted by that tick, and until one is the newest book is its own
abbrev pub JudgedIsNewest : Type 0
JudgedIsNewest =
    (plan : Plan) → T (proper plan) → (h : List Event) → T (keeps_so_far (start plan) h)
    → (m : MessageIn (start plan) h) → TwoMessage (start plan) h m → OneTickBeyond (start plan) h m → Newest (start plan) h m

abbrev pub NewestBookIsOwn : Type 0
NewestBookIsOwn =
    (plan : Plan) → T (proper plan) → (h : List Event) → T (keeps_so_far (start plan) h)
    → (m : MessageIn (start plan) h) → TwoMessage (start plan) h m → Newest (start plan) h m → OwnBook (start plan) h m

-- ── other traffic ──
-- the event concerns the stream, or every stream
abbrev pub concerns : Stream → Event → Bool
concerns s (asks i z payload) = same_stream z s
concerns s (gives i z code) = same_stream z s
concerns s (sends z message w to) = same_stream z s
concerns s ticks = true
concerns s (dies i) = true

-- OTHER TRAFFIC: without what concerns other streams, each module delivers this stream's messages at the same ticks with the same bytes
abbrev pub OtherTraffic : Type 0
OtherTraffic =
    (plan : Plan) → T (proper plan) → (h : List Event) → T (keeps_so_far (start plan) h)
    → (s : Stream) (i : ℕ) → delivered s i (run (start plan) h) ≡ delivered s i (run (start plan) (keep_only (concerns s) h))

-- ── the order of deliveries ──
abbrev pub Has : Delivery → List Delivery → Type 0
Has d [] = ⊥
Has d (x ∷ xs) = (x ≡ d) ⊎ Has d xs

-- d was delivered before e, in a log that has the newest first
abbrev pub Before : Delivery → Delivery → List Delivery → Type 0
Before d e [] = ⊥
Before d e (x ∷ xs) = ((x ≡ e) × Has d xs) ⊎ Before d e xs

module _ (b₀ : Bench) (h : List Event) (m : MessageIn b₀ h) where
  -- a two-message message, at any moment before the next request of its stream is accepted, by when its data had a full sending
  pub record FullData : Type 0 where
    pub two_message : TwoMessage b₀ h m
    pub newest : Newest b₀ h m
    pub full : T (was_full (its_book b₀ h m).payload_frame)

  -- by then module i, live or dead, has delivered it as d
  abbrev pub Delivers : ℕ → Delivery → Type 0
  Delivers i d = delivered m.stream i (at_moment b₀ h m) ≡ d ∷ delivered m.stream i (at_request b₀ h m)

-- SAME ORDER: two receivers that both deliver two messages whose data each had a full sending deliver them in the same order
abbrev pub SameOrder : Type 0
SameOrder =
    (plan : Plan) → T (proper plan) → (h : List Event) → T (keeps_so_far (start plan) h)
    → (m n : MessageIn (start plan) h) → FullData (start plan) h m → FullData (start plan) h n
    → (i j : ℕ) (d d' e e' : Delivery)
    → Delivers (start plan) h m i d → Delivers (start plan) h m j d' → Delivers (start plan) h n i e → Delivers (start plan) h n j e'
    → Before d e (module_at i (run (start plan) h)).log → Before d' e' (module_at j (run (start plan) h)).log
