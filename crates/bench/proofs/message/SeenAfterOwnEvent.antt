-- A stream of a bench as a strand of the one-stream proof, and that the strand follows the bench: at a tick, and at a sending of its newest message.
use Prim.Native.Nat.{ℕ, zero, suc, ◌+◌, ◌-◌, ◌≤◌}
use native.Mathlib.Omega.{arith}
use mathlib.Core.Path.{◌≡◌, refl, ap, sym, subst, ◌∙◌, fun_ext}
use mathlib.Core.Logic.{inr}
use mathlib.Core.Bool.{Bool, true, false, not, ◌&&◌, cond}
use mathlib.Core.List.{List, [], ◌∷◌, map}
use lib.ListN.{length}
use lib.Dec.{T, ltb, eqb, eqb→eq, not_T, T_not}
use native.Mathlib.Numerals.{add-one}
use Rattle.wire.specs.declared.ids.Stream.{Stream}
use Rattle.wire.specs.declared.ids.BusId.{BusId}
use Rattle.node.specs.declared.slots.Slot.{Slot}
use Rattle.wire.specs.Frames.{max_payload}
use Rattle.wire.specs.Identifiers.{id_of, code_of, max_stream}
use Rattle.wire.specs.Settings.{receives}
use Rattle.node.specs.Clock.{unbounded}
use Rattle.node.specs.Nodes.{slot_of}
use Rattle.node.specs.Reachable.{Kept}
use Rattle.node.specs.Slots.{is_receiver, is_sender}
use Rattle.node.proofs.slots.Streams.{Kind, kind_of}
use Rattle.node.proofs.Choices.{either_way}
use Rattle.one_stream.proofs.Truth.{cond_elim, cond_true, and_l, and_r, both, is_true, is_false, so, not_so}
use Rattle.one_stream.proofs.Events.{causes}
use Rattle.bench.specs.Bench.{Module, Bench, Book, Frame, pending_since, no_book, module_at, is_live, slot_at, now}
use Rattle.bench.specs.Bench.{books_of, frame_of, owner_of, Which, the_payload, the_confirmation, the_abort}
use Rattle.bench.specs.Events.{Event, sends, ticks, step, ticked, named, is_full, To, enter, became_pending, sent_once, on_frame}
use Rattle.bench.specs.Lists.{nth, at}
use Rattle.bench.proofs.laws.SlotAfterCall.{hear_counter, tick_counter}
use Rattle.bench.proofs.laws.ModuleAfterEvent.{nth_at, hears_frame, ticked_live, module_step, deaf, moved_step, length_at, size_step, count_of}
use Rattle.bench.proofs.laws.ModuleAfterEvent.{as_function, count_is, hear_kind, tick_kind}
use Rattle.bench.proofs.laws.BooksAfterEvent.{listed, entering, listed_step, books_sent}
use Rattle.bench.proofs.laws.FramesOfBooks.{Labels, label_step}
use Rattle.bench.proofs.message.SendingsSeen.{to_sent, sent_again_law}
use Rattle.bench.proofs.message.ClassOnBench.{OfClass, Becomes, ClassOnBench}
use Rattle.bench.proofs.message.ModuleSeen.{to_frame, notes, view, Looks, looks, heard_data, heard_conf, heard_code2}
use Rattle.bench.proofs.message.ModuleSeen.{ticked_receiver, ticked_other, ticked_log, ticked_log_other}
use Rattle.bench.proofs.message.StreamSeen.{row_enter, view_same, view_becomes, seen, data_view, conf_view, code2_view, tick_view, own_view, heard_log}
use Rattle.one_stream.specs.Sendings as OS
use Rattle.one_stream.specs.Frames as OF
use Rattle.one_stream.specs.Classes as OC
use Rattle.one_stream.proofs.Histories as OH
use Rattle.wire.specs.Settings as wire

-- ── a stream of the bench ──
-- what setting up gave a stream of class n whose delays are D, and what every event keeps
pub record Valid (n : ℕ) (D : OS.Delays) (s : Stream) (me : ℕ) (b : Bench) : Type 0 where
  pub nodes : (i : ℕ) → Kept (module_at i b).node
  pub small : s.0 ≤ max_stream
  pub receivers : (i : ℕ) → T (is_receiver (slot_at s i b)) → OfClass n D (slot_at s i b).settings
  pub sender : T (is_sender (slot_at s me b)) × OfClass n D (slot_at s me b).settings
  pub only : (i : ℕ) → T (is_sender (slot_at s i b)) → i ≡ me
  pub ledger : T (listed s b.ledgers)
  pub labels : Labels b

pub valid_step : {n : ℕ} {D : OS.Delays} {s : Stream} {me : ℕ} {b : Bench} (e : Event) → Valid n D s me b → Valid n D s me (step b e)
valid_step {n} {D} {s} {me} {b} e v =
    record {
      nodes = λ i. (moved_step s b e i (v.nodes i)).kept (v.nodes i);
      small = v.small;
      receivers =
          λ i. subst (λ (k : Kind). T (k.used && receives k.settings) → OfClass n D k.settings) (sym (kind i)) (v.receivers i);
      sender = subst (λ (k : Kind). T (k.used && wire.sends k.settings) × OfClass n D k.settings) (sym (kind me)) v.sender;
      only = λ i. subst (λ (k : Kind). T (k.used && wire.sends k.settings) → i ≡ me) (sym (kind i)) (v.only i);
      ledger = subst T (sym (listed_step s b e)) v.ledger;
      labels = label_step b v.labels e;
    }
  where
    kind : (i : ℕ) → kind_of (slot_at s i (step b e)) ≡ kind_of (slot_at s i b)
    kind i = (moved_step s b e i (v.nodes i)).kind

-- a receiver is not the sender
pub not_both : (x : Slot) → T (is_receiver x) → T (is_sender x) → ⊥
not_both x r s =
    let e = eqb→eq x.settings.role 0 (and_r x.used (receives x.settings) r) in
    let f = eqb→eq x.settings.role 1 (and_r x.used (wire.sends x.settings) s) in
    omega arith

-- data, a confirmation and a frame of code 2 are not plain frames
not_plain_frame : (s : Stream) (c : ℕ) → c ≤ 2 → {id : BusId} → id ≡ id_of s c → T (eqb (code_of id) 3) → ⊥
not_plain_frame s c h {id} e t =
    let three = eqb→eq (code_of id) 3 t in
    let code = ap code_of e in
    omega arith

-- ── the strand ──
module _ {n : ℕ} {D : OS.Delays} (K : ClassOnBench n D) (s : Stream) (me : ℕ) (p : List ℕ) where
  abbrev pub Strand : Type 0
  Strand = OH.Strand K.C

  -- what frames of code 2 carry of the message
  abbrev pub carried : List ℕ
  carried = K.C.carried p

  abbrev pub receivers_of : Bench → List (List Frame) → ℕ → OC.Receiver K.C
  receivers_of b rows i = view K s carried (module_at i b) (nth [] i rows)

  abbrev pub made : (now requested : ℕ → ℕ) (d c : OS.Sent) → (ℕ → OC.Receiver K.C) → (up hold : Bool) → Strand
  made now requested d c r up hold =
      record {
        state = record { now = now; requested = requested; message = p; data_sent = d; conf_sent = c; receiver = r };
        sender = me;
        up = up;
        begun = true;
        hold = hold;
      }

  -- the hold is the sender's while it lives
  abbrev pub strand_of : Bench → Book → (hold : Bool) → Strand
  strand_of b k hold =
      made (count_of b) (as_function k.payload_frame.since) (to_sent k.payload_frame.sendings) (to_sent k.confirmation.sendings)
      (receivers_of b k.aborts) (is_live me b) hold

  pub made_path : {now now' : ℕ → ℕ} (requested : ℕ → ℕ) {d d' c c' : OS.Sent} {r r' : ℕ → OC.Receiver K.C}
      {up up' hold hold' : Bool}
      → now ≡ now' → d ≡ d' → c ≡ c' → r ≡ r' → up ≡ up' → hold ≡ hold'
      → made now requested d c r up hold ≡ made now' requested d' c' r' up' hold'
  made_path requested e₁ e₂ e₃ e₄ e₅ e₆ = λ i. made (e₁ i) requested (e₂ i) (e₃ i) (e₄ i) (e₅ i) (e₆ i)

  -- a module with its row, after an event that makes of it m' in bench b'
  abbrev entered : (b b' : Bench) → ℕ → List Frame → Module → OC.Receiver K.C
  entered b b' i row m' = view K s carried m' (cond (became_pending s (module_at i b) m') (pending_since (now b') ∷ row) row)

  after_event : (b b' : Bench) (rows : List (List Frame)) → length rows ≡ length b.modules → length b'.modules ≡ length b.modules
      → (i : ℕ) (m' : Module) → module_at i b' ≡ m'
      → entered b b' i (nth [] i rows) m' ≡ receivers_of b' (enter (now b') s b.modules b'.modules rows) i
  after_event b b' rows size size' i m' e =
      sym (ap (view K s carried (module_at i b')) (row_enter (now b') s b.modules b'.modules rows size size' i)
      ∙ ap (entered b b' i (nth [] i rows)) e)

  -- ── a tick ──
  abbrev pub lives : Bench → ℕ → Bool
  lives b i = is_live i b

  tick_live : (m : Module) → (ticked unbounded m).live ≡ m.live
  tick_live m = go m.live
    where
      go : (l : Bool) → (cond l (ticked_live m) m).live ≡ m.live
      go true = refl
      go false = refl

  tick_count : (m : Module) → OS.move (λ i. m.live) (λ i. m.node.counter) 0 ≡ (ticked unbounded m).node.counter
  tick_count m = go m.live
    where
      go : (l : Bool) → cond l (suc m.node.counter) m.node.counter
          ≡ (cond l (ticked_live m) m).node.counter
      go true = sym (tick_counter m.node ∙ add-one m.node.counter)
      go false = refl

  pub moves : (b : Bench) → OS.move (lives b) (count_of b) ≡ count_of (step b ticks)
  moves b = fun_ext (λ i. tick_count (module_at i b) ∙ sym (ap (λ (m : Module). m.node.counter) (module_step b ticks i)))

  module _ (b : Bench) (v : Valid n D s me b) (k : Book) (size : length k.aborts ≡ length b.modules) where
    -- what is made pending carries what frames of code 2 do
    abbrev pub Bytes : OC.Event → Type 0
    Bytes e =
        (i : ℕ) → T (causes D K.C (strand_of b k true).state e i) → K.C.payload ((strand_of b k true).state.receiver i).slot ≡ carried

    -- of what the class sees held at a live receiver that the event reaches
    pub caused_bytes : (i : ℕ) (reached : Bool) (test : K.C.Slot → Bool) → (let x = slot_at s i b in let z = (strand_of b k true).state.receiver i in
        T (is_live i b) → T (is_receiver x) → T reached → T (test (K.held x))
        → (T ((z.live && reached) && test z.slot) → K.C.payload z.slot ≡ carried) → K.C.payload (K.held x) ≡ carried)
    unfolding view
    caused_bytes i reached test live r here late bytes =
        let x = slot_at s i b in
        let slot = cond_true (is_receiver x) (K.held x) K.C.idle r in
        subst (λ h. K.C.payload h ≡ carried) slot
        (bytes (both ((is_live i b && is_receiver x) && reached) (test (cond (is_receiver x) (K.held x) K.C.idle))
        (both (is_live i b && is_receiver x) reached (both (is_live i b) (is_receiver x) live r) here)
        (subst (λ h. T (test h)) (sym slot) late)))

    module _ (bytes : Bytes (OC.tick (lives b))) where
      tick_receiver : (i : ℕ) → (OC.step K.C (strand_of b k true).state (OC.tick (lives b))).receiver i
          ≡ receivers_of (step b ticks) (entering s b.modules (step b ticks).modules k).aborts i
      unfolding OC.step view
      tick_receiver i =
          go m.live refl (is_receiver x) refl
          ∙ after_event b (step b ticks) k.aborts size (size_step b ticks) i (ticked unbounded m) (module_step b ticks i)
        where
          m : Module
          m = module_at i b

          x : Slot
          x = slot_at s i b

          row : List Frame
          row = nth [] i k.aborts

          before : OC.Receiver K.C
          before = view K s carried m row

          of : T (is_receiver x) → OfClass n D x.settings
          of = v.receivers i

          when : OS.move (lives b) (count_of b) ≡ as_function (now (step b ticks))
          when = moves b ∙ fun_ext (λ j. sym (count_is j (step b ticks).modules))

          go : (l : Bool) → m.live ≡ l → (r : Bool) → is_receiver x ≡ r
              → cond ((l && r) && l) (OC.ticked K.C (suc (count_of b i)) (OS.move (lives b) (count_of b)) before) before
              ≡ entered b (step b ticks) i row (cond l (ticked_live m) m)
          go false el r er = view_same K s carried (now (step b ticks)) m m row refl (looks K x) refl
          go true el false er =
              view_same K s carried (now (step b ticks)) m (ticked_live m) row refl (ticked_other K s m.node (v.nodes i) of er)
              (ticked_log_other K s m.node (v.nodes i) of er m.log)
          go true el true er =
              let live = so el in
              let r = so er in
              let late_bytes : T (K.C.late (count_of b i + 1) (K.held x)) → K.C.payload (K.held x) ≡ carried =
              λ late. caused_bytes i m.live (K.C.late (suc (count_of b i))) live r live
              (subst (λ t. T (K.C.late t (K.held x))) (add-one (count_of b i)) late) (bytes i) in
              ap (λ c. OC.ticked K.C (suc (count_of b i)) c before) when
              ∙ (ap (λ t. OC.ticked K.C t (as_function (now (step b ticks))) before) (sym (add-one (count_of b i)))
              ∙ (tick_view K m.live (K.held x) x.pending.abort (map (to_frame carried) row) (notes s m.log) (as_function (now (step b ticks))) carried
              (is_receiver x) r (count_of b i + 1) late_bytes
              ∙ sym (view_becomes K s carried (now (step b ticks)) m (ticked_live m) row refl (tick_kind s m.node)
              (ticked_receiver K s m.node (v.nodes i) of r) (ticked_log K s m.node (v.nodes i) of r m.log))))

      pub tick_strand : (hold : Bool) → OH.act K.C (strand_of b k hold) (OH.ticks (lives b))
          ≡ strand_of (step b ticks) (entering s b.modules (step b ticks).modules k)
          (hold && not (ltb K.C.hold (OS.move (lives b) (count_of b) me - as_function k.payload_frame.since me)))
      unfolding OH.act OC.step
      tick_strand hold =
          made_path (as_function k.payload_frame.since) (moves b) refl refl (fun_ext tick_receiver)
          (sym (ap (λ (m : Module). m.live) (module_step b ticks me) ∙ tick_live (module_at me b))) refl

  -- ── a sending of the newest message ──
  module _ (b : Bench) (v : Valid n D s me b) (k : Book) (ks : List Book) (books : books_of s b ≡ k ∷ ks) (to : To) where
    abbrev sent_to : Which → Bench
    sent_to w = step b (sends s 0 w to)

    -- the book after it
    abbrev pub book_after : Which → Book
    book_after w = entering s b.modules (sent_to w).modules (on_frame w (sent_once (now b) (is_full to)) k)

    pub books_after : (w : Which) → books_of s (sent_to w) ≡ book_after w ∷ ks
    books_after w =
        books_sent s b v.ledger 0 w to
        ∙ ap (λ l. at (entering s b.modules (sent_to w).modules) 0 (at (on_frame w (sent_once (now b) (is_full to))) 0 l)) books

    abbrev hears_it : Which → ℕ → Bool
    hears_it w i = is_live i b && named to i && not (eqb i (owner_of w k))

    module_sent : (w : Which) (i : ℕ) → module_at i (sent_to w) ≡ cond (hears_it w i) (hears_frame (frame_of w k) (module_at i b)) (module_at i b)
    module_sent w i =
        module_step b (sends s 0 w to) i
        ∙ ap (λ l. cond (is_live i b && named to i && not (eqb i (owner_of w (nth no_book 0 l))))
        (hears_frame (frame_of w (nth no_book 0 l)) (module_at i b)) (module_at i b)) books

    -- hearing changes neither counts nor who is live
    count_sent : (w : Which) → count_of b ≡ count_of (sent_to w)
    count_sent w = fun_ext (λ i. sym (ap (λ (m : Module). m.node.counter) (module_sent w i) ∙ go (module_at i b) (hears_it w i)))
      where
        go : (m : Module) (g : Bool) → (cond g (hears_frame (frame_of w k) m) m).node.counter ≡ m.node.counter
        go m true = hear_counter (frame_of w k).id (frame_of w k).payload m.node
        go m false = refl

    live_sent : (w : Which) (i : ℕ) → is_live i b ≡ is_live i (sent_to w)
    live_sent w i =
        sym (ap (λ (m : Module). m.live) (module_sent w i)
        ∙ either_way (λ (m : Module). m.live) (hears_it w i) {x = hears_frame (frame_of w k) (module_at i b)} refl refl)

    when_sent : (w : Which) → count_of b ≡ as_function (now (sent_to w))
    when_sent w = count_sent w ∙ fun_ext (λ i. sym (count_is i (sent_to w).modules))

    -- a module with its row of these, after the sending
    entered_sent : (w : Which) (rows : List (List Frame)) → length rows ≡ length b.modules → (i : ℕ)
        → entered b (sent_to w) i (nth [] i rows) (cond (hears_it w i) (hears_frame (frame_of w k) (module_at i b)) (module_at i b))
        ≡ receivers_of (sent_to w) (enter (now (sent_to w)) s b.modules (sent_to w).modules rows) i
    entered_sent w rows size i = after_event b (sent_to w) rows size (size_step b (sends s 0 w to)) i _ (module_sent w i)

    -- a live receiver that is named does with its view what the class does; the views of others stay
    module _ (w : Which) (i : ℕ) (row : List Frame) (op : OC.Receiver K.C → OC.Receiver K.C) where
      abbrev m : Module
      m = module_at i b

      abbrev x : Slot
      x = slot_at s i b

      abbrev f : Frame
      f = frame_of w k

      -- what the class says of its slot, and makes of its view
      heard_receiver : (T (eqb (code_of f.id) 3) → ⊥) → (T (is_receiver x) → T (eqb i (owner_of w k)) → ⊥) → {h : K.C.Slot} {caused : Bool}
          → (T (is_receiver x) → Becomes K.C K.held x h caused (slot_of s (hears_frame f m).node))
          → (T (is_live i b) → T (is_receiver x) → T (named to i) → op (view K s carried m row)
          ≡ seen K m.live (K.held x) x.pending.abort (map (to_frame carried) row) (notes s m.log) (as_function (now (sent_to w))) carried
          (is_receiver x) h caused (notes s m.log))
          → cond ((is_live i b && is_receiver x) && named to i) (op (view K s carried m row)) (view K s carried m row)
          ≡ entered b (sent_to w) i row (cond (hears_it w i) (hears_frame f m) m)
      heard_receiver not_plain not_own becomes seen_so =
          cond_elim (λ z. z ≡ after (hears_it w i)) ((is_live i b && is_receiver x) && named to i)
          (λ t.
          let here = and_l (is_live i b && is_receiver x) (named to i) t in
          let name = and_r (is_live i b && is_receiver x) (named to i) t in
          let live = and_l (is_live i b) (is_receiver x) here in
          let r = and_r (is_live i b) (is_receiver x) here in
          seen_so live r name
          ∙ (sym (view_becomes K s carried (now (sent_to w)) m (hears_frame f m) row refl (hear_kind s f.id f.payload m.node) (becomes r)
          (heard_log s f m not_plain))
          ∙ ap after (sym (is_true (hears_it w i)
          (both (is_live i b && named to i) (not (eqb i (owner_of w k))) (both (is_live i b) (named to i) live name)
          (not_T (eqb i (owner_of w k)) (not_own r)))))))
          (λ t. stays (hears_it w i) (λ g. is_false (is_receiver x) (λ r.
          let named_Live = and_l (is_live i b && named to i) (not (eqb i (owner_of w k))) g in
          T_not ((is_live i b && is_receiver x) && named to i) t
          (both (is_live i b && is_receiver x) (named to i) (both (is_live i b) (is_receiver x) (and_l (is_live i b) (named to i) named_Live) r)
          (and_r (is_live i b) (named to i) named_Live)))))
        where
          after : Bool → OC.Receiver K.C
          after g = entered b (sent_to w) i row (cond g (hears_frame f m) m)

          stays : (g : Bool) → (T g → is_receiver x ≡ false) → view K s carried m row ≡ after g
          stays true e =
              view_same K s carried (now (sent_to w)) m (hears_frame f m) row refl
              (subst (Looks K (is_receiver x) (K.held x) x.pending.abort) (sym (deaf s f.id f.payload m.node (e tt))) (looks K x))
              (heard_log s f m not_plain)
          stays false e = view_same K s carried (now (sent_to w)) m m row refl (looks K x) refl

    -- the sender's own module does not receive the stream
    own_no_receiver : k.sender ≡ me → (i : ℕ) → T (is_receiver (slot_at s i b)) → T (eqb i k.sender) → ⊥
    own_no_receiver e i r t =
        not_both (slot_at s me b) (subst (λ j. T (is_receiver (slot_at s j b))) (eqb→eq i k.sender t ∙ e) r) v.sender.0

    module _ (size : length k.aborts ≡ length b.modules) where
      -- the data and the confirmation are the sender's
      module _ (sender : k.sender ≡ me) where
        module _ (id : k.payload_frame.id ≡ id_of s 0) (bytes : k.payload_frame.payload ≡ p) (short : length p ≤ max_payload) where
          pub data_heard : (i : ℕ) → (let x = slot_at s i b in T (is_receiver x)
              → Becomes K.C K.held x (K.C.on_data (count_of b i) p (K.held x)) false (slot_of s (hears_frame k.payload_frame (module_at i b)).node))
          data_heard i r = rw (id, bytes) (heard_data K s (module_at i b).node (v.nodes i) (v.receivers i) v.small r p short)

          data_receiver : (i : ℕ) → (OC.step K.C (strand_of b k true).state (OC.send_data (named to) (is_full to))).receiver i
              ≡ receivers_of (sent_to the_payload) (book_after the_payload).aborts i
          unfolding OC.step view
          data_receiver i =
              let m = module_at i b in
              let x = slot_at s i b in
              let row = nth [] i k.aborts in
              heard_receiver the_payload i row (OC.hear_data K.C (count_of b i) p) (not_plain_frame s 0 (omega arith) id) (own_no_receiver sender i)
              (data_heard i)
              (λ live r name. data_view K m.live (K.held x) x.pending.abort (map (to_frame carried) row) (notes s m.log)
              (as_function (now (sent_to the_payload))) carried (is_receiver x) r (count_of b i) p)
              ∙ entered_sent the_payload k.aborts size i

          pub data_strand : (hold : Bool)
              → OH.act K.C (strand_of b k hold) (OH.on (OC.send_data (named to) (is_full to)))
              ≡ strand_of (sent_to the_payload) (book_after the_payload) hold
          unfolding OH.act OC.step
          data_strand hold =
              made_path (as_function k.payload_frame.since) (count_sent the_payload) (sent_again_law b to k.payload_frame.sendings) refl
              (fun_ext data_receiver) (live_sent the_payload me) refl

        module _ (id : k.confirmation.id ≡ id_of s 1) (empty : k.confirmation.payload ≡ [])
            (bytes : Bytes b v k size (OC.send_conf (named to) (is_full to))) where
          pub conf_heard : (i : ℕ) → (let x = slot_at s i b in T (is_receiver x)
              → Becomes K.C K.held x (K.C.on_conf (K.held x)) (K.C.refuses (K.held x))
              (slot_of s (hears_frame k.confirmation (module_at i b)).node))
          conf_heard i r = rw (id, empty) (heard_conf K s (module_at i b).node (v.nodes i) (v.receivers i) v.small r)

          conf_receiver : (i : ℕ) → (OC.step K.C (strand_of b k true).state (OC.send_conf (named to) (is_full to))).receiver i
              ≡ receivers_of (sent_to the_confirmation) (book_after the_confirmation).aborts i
          unfolding OC.step view
          conf_receiver i =
              let m = module_at i b in
              let x = slot_at s i b in
              let row = nth [] i k.aborts in
              heard_receiver the_confirmation i row (OC.hear_conf K.C (count_of b)) (not_plain_frame s 1 (omega arith) id) (own_no_receiver sender i)
              (conf_heard i)
              (λ live r name. ap (λ c. OC.hear_conf K.C c (view K s carried m row)) (when_sent the_confirmation)
              ∙ conf_view K m.live (K.held x) x.pending.abort (map (to_frame carried) row) (notes s m.log)
              (as_function (now (sent_to the_confirmation))) carried (is_receiver x) r
              (λ refuses. caused_bytes b v k size i (named to i) K.C.refuses live r name refuses (bytes i)))
              ∙ entered_sent the_confirmation k.aborts size i

          pub conf_strand : (hold : Bool)
              → OH.act K.C (strand_of b k hold) (OH.on (OC.send_conf (named to) (is_full to)))
              ≡ strand_of (sent_to the_confirmation) (book_after the_confirmation) hold
          unfolding OH.act OC.step
          conf_strand hold =
              made_path (as_function k.payload_frame.since) (count_sent the_confirmation) refl (sent_again_law b to k.confirmation.sendings)
              (fun_ext conf_receiver) (live_sent the_confirmation me) refl

      -- a frame of code 2
      module _ (q y : ℕ) (given : T (frame_of (the_abort q y) k).given) (id : (frame_of (the_abort q y) k).id ≡ id_of s 2)
          (bytes : (frame_of (the_abort q y) k).payload ≡ carried) (short : length p ≤ max_payload) where
        abbrev changed : Frame → Frame
        changed = sent_once (now b) (is_full to)

        row_sent : (i : ℕ) → nth [] i (at (at changed y) q k.aborts) ≡ cond (eqb i q) (at changed y (nth [] i k.aborts)) (nth [] i k.aborts)
        row_sent i = nth_at [] (at changed y) i q k.aborts (inr refl)

        frames_sent : (y : ℕ) (fs : List Frame)
            → OF.send_at (count_of b) (is_full to) y (map (to_frame carried) fs) ≡ map (to_frame carried) (at changed y fs)
        unfolding to_frame
        frames_sent y [] = refl
        frames_sent zero (f ∷ fs) =
            ap (λ d. record { since = as_function f.since; given = f.given; sendings = d; bytes = carried } ∷ map (to_frame carried) fs)
            (sent_again_law b to f.sendings)
        frames_sent (suc y) (f ∷ fs) = ap (λ l. to_frame carried f ∷ l) (frames_sent y fs)

        bytes_sent : (y : ℕ) (fs : List Frame) → T (nth (pending_since []) y fs).given → OF.bytes_at y (map (to_frame carried) fs) ≡ carried
        unfolding to_frame
        bytes_sent y [] t = absurd t
        bytes_sent zero (f ∷ fs) t = refl
        bytes_sent (suc y) (f ∷ fs) t = bytes_sent y fs t

        pub code2_heard : (i : ℕ) → (let x = slot_at s i b in T (is_receiver x)
            → Becomes K.C K.held x (K.C.on_code2 (count_of b i) carried (K.held x)) false
            (slot_of s (hears_frame (frame_of (the_abort q y) k) (module_at i b)).node))
        code2_heard i r = rw (id, bytes) (heard_code2 K s (module_at i b).node (v.nodes i) (v.receivers i) v.small r p short)

        code2_receiver : (i : ℕ) → (OC.step K.C (strand_of b k true).state (OC.send_code2 q y (named to) (is_full to))).receiver i
            ≡ receivers_of (sent_to (the_abort q y)) (book_after (the_abort q y)).aborts i
        unfolding OC.step view
        code2_receiver i =
            go (eqb i q) refl
            ∙ (ap (λ row. entered b (sent_to w) i row (cond (hears_it w i) (hears_frame f m) m)) (sym (row_sent i))
            ∙ entered_sent w (at (at changed y) q k.aborts) (length_at (at changed y) q k.aborts ∙ size) i)
          where
            w : Which
            w = the_abort q y

            m : Module
            m = module_at i b

            x : Slot
            x = slot_at s i b

            f : Frame
            f = frame_of w k

            row : List Frame
            row = nth [] i k.aborts

            frames : List OF.Frame
            frames = map (to_frame carried) (nth [] q k.aborts)

            plain_not : T (eqb (code_of f.id) 3) → ⊥
            plain_not = not_plain_frame s 2 (omega arith) id

            go : (o : Bool) → eqb i q ≡ o
                → cond o (OC.send_own K.C (count_of b i) (count_of b) (is_full to) y (view K s carried m row))
                (cond ((is_live i b && is_receiver x) && named to i) (OC.hear_code2 K.C (count_of b i) (OF.bytes_at y frames) (view K s carried m row))
                (view K s carried m row))
                ≡ entered b (sent_to w) i (cond o (at changed y row) row) (cond (hears_it w i) (hears_frame f m) m)
            go true own =
                own_view K m.live (is_receiver x) (K.held x) x.pending.abort (map (to_frame carried) row) (map (to_frame carried) (at changed y row))
                (notes s m.log) (count_of b) (count_of b i) y (is_full to) (frames_sent y row)
                ∙ (view_same K s carried (now (sent_to w)) m m (at changed y row) refl (looks K x) refl
                ∙ ap (λ g. entered b (sent_to w) i (at changed y row) (cond g (hears_frame f m) m))
                (sym (is_false (hears_it w i) (λ g. T_not (eqb i q) (and_r (is_live i b && named to i) (not (eqb i q)) g) (so own)))))
            go false other =
                heard_receiver w i row (OC.hear_code2 K.C (count_of b i) (OF.bytes_at y frames)) plain_not (λ r o. not_so other o) (code2_heard i)
                (λ live r name. ap (λ c. OC.hear_code2 K.C (count_of b i) c (view K s carried m row)) (bytes_sent y (nth [] q k.aborts) given)
                ∙ code2_view K m.live (K.held x) x.pending.abort (map (to_frame carried) row) (notes s m.log) (as_function (now (sent_to w))) carried
                (is_receiver x) r (count_of b i) carried)

        pub code2_strand : (hold : Bool)
            → OH.act K.C (strand_of b k hold) (OH.on (OC.send_code2 q y (named to) (is_full to)))
            ≡ strand_of (sent_to (the_abort q y)) (book_after (the_abort q y)) hold
        unfolding OH.act OC.step
        code2_strand hold =
            made_path (as_function k.payload_frame.since) (count_sent (the_abort q y)) refl refl (fun_ext code2_receiver)
            (live_sent (the_abort q y) me) refl
