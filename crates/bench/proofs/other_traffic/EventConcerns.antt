-- Which stream an event concerns, as far as the rules allow the event: a frame that is sent carries the stream of its book, so an event
-- that does not concern a stream is elsewhere.
use Prim.Native.Nat.{ℕ}
use mathlib.Core.Path.{◌≡◌, sym, subst}
use lib.Dec.{T, eqb, eqb_refl, eqb→eq}
use Rattle.wire.specs.declared.ids.Stream.{Stream}
use Rattle.wire.specs.Identifiers.{stream_of}
use Rattle.bench.specs.Bench.{Bench, Which, same_stream, book_of, frame_of}
use Rattle.bench.specs.Events.{Event, asks, gives, sends, ticks, dies, To}
use Rattle.bench.specs.Rules.{may}
use Rattle.bench.specs.Demands.{concerns}
use Rattle.bench.proofs.laws.SlotAfterCall.{Same, same_stream_law}
use Rattle.bench.proofs.laws.ModuleAfterEvent.{Elsewhere}
use Rattle.bench.proofs.laws.FramesOfBooks.{Labels, labelled}
use Rattle.bench.proofs.message.RulesSeen.{was_given}
use Rattle.bench.proofs.message.ThroughHistory.{sends_elsewhere}

pub same_if : (s z : Stream) → T (same_stream z s) → s ≡ z
same_if s z t = sym (same_stream_law (eqb→eq z.0 s.0 t))

other_if_not : (s z : Stream) → (T (same_stream z s) → ⊥) → Same s z → ⊥
other_if_not s z n e = n (subst (λ k. T (eqb z.0 k)) (sym e) (eqb_refl z.0))

module _ (b : Bench) (labels : Labels b) where
  pub frame_carries : (z : Stream) (n : ℕ) (w : Which) (to : To) → T (may b (sends z n w to)) → stream_of (frame_of w (book_of z n b)).id ≡ z
  unfolding may
  frame_carries z n w to t = same_stream_law (labelled b labels z n w (was_given b z (book_of z n b) w t))

  pub elsewhere : (s : Stream) (e : Event) → (T (concerns s e) → ⊥) → T (may b e) → Elsewhere s b e
  elsewhere s (asks j z p) n t = other_if_not s z n
  elsewhere s (gives j z c) n t = other_if_not s z n
  elsewhere s (sends z d w to) n t = sends_elsewhere s b labels z d w to (other_if_not s z n) t
  elsewhere s ticks n t = n tt
  elsewhere s (dies j) n t = n tt
