-- A step that is lent enough asks for no more; so there is a whole run for every settings and every recording.
use Rattle.std.proofs.Common.{◌≡◌, ℕ, zero, suc, ◌+◌, ◌-◌, ◌≤◌, Bool, true, false, ◌⊎◌, List, [], ◌∷◌, ◌++◌, length, take, drop, sym, refl, ap, ◌∙◌, subst, inl}
use Rattle.std.proofs.Common.{inr, true≢false, append-nil, arith, take-append-drop, length-take-le}
use Rattle.wire.specs.declared.ids.Stream.{Stream}
use Rattle.wire.specs.declared.settings.Settings.{Settings}
use Rattle.std.specs.Prelude.{Ok, Err}
use Rattle.wire.specs.Answers.{is_done}
use Rattle.wire.specs.Delivered.{over, AreBytes}
use Rattle.heard.specs.Recordings.{Recording, recording_in}
use Rattle.heard.specs.RoundTrip.{ReadBy}
use Rattle.heard.specs.Windows.{most_asked}
use Rattle.heard.proofs.Windows.{enough_is_not_cut}
use Rattle.heard.proofs.WrittenThenRead.{every_recording_is_read}
use Rattle.node.specs.declared.Node.{Node}
use Rattle.node.specs.Nodes.{fresh}
use Rattle.node.specs.Tick.{tick_room}
use Rattle.playback.specs.declared.Playback.{Playback}
use Rattle.playback.specs.declared.step.Stepped.{Stepped}
use Rattle.playback.specs.Deliveries.{Delivery, room}
use Rattle.playback.specs.Replays.{Replayed, set_up_all, replay}
use Rattle.playback.specs.Quiet.{held_in}
use Rattle.playback.specs.Steps.{fresh_playback, Prepared, prepared, On, Over, Step, step, as_stepped, tick_step, hear_step}
use Rattle.playback.specs.Runs.{Answer, Prepares, all_set_up, way_of, Lent, Promised, seen, is_over, counted, Steps, Run, not_begun, ended}
use Rattle.playback.specs.Runs.{replayed_in64, Fed, SomeRun}
use Rattle.playback.proofs.StepCases.{Case, all_done, wants_bytes, wants_room, faulty, ticked, heard, step_case, AnswersSo, answers_so}
use Rattle.playback.proofs.Holding.{Holds}
use Rattle.playback.proofs.Steps.{goes_on}
use Rattle.playback.proofs.Runs.{fresh_holds, prepares_as, every_replay}

-- ── enough ──
module _ (window : List ℕ) (end : Bool) (output : List ℕ) (p : Playback) (long : tick_room ≤ length output)
    (enough : (end ≡ true) ⊎ (AreBytes window × (most_asked ≤ length window))) where
  not_asked : {s : Step} → Case window end output p s → (s.way ≡ On) ⊎ (s.way ≡ Over)
  unfolding tick_step hear_step
  not_asked (all_done e none) = inr refl
  not_asked (faulty bad tells some) = inr refl
  not_asked (ticked ok room before) = inl refl
  not_asked (heard ok room beyond) = inl refl
  not_asked (wants_room short) = absurd (omega arith)
  not_asked (wants_bytes cut e) = absurd (by enough)
    where
      by : (end ≡ true) ⊎ (AreBytes window × (most_asked ≤ length window)) → ⊥
      by (inl f) = true≢false (sym f ∙ e)
      by (inr (bytes, many)) = enough_is_not_cut window 0 bytes (omega arith) cut

pub fed : Fed
fed recording at l p r after left promised long enough =
    let way = ap way_of promised.0 ∙ (answers_so l.window l.ended l.output p).way in
    rw way (not_asked l.window l.ended l.output p long enough (step_case l.window l.ended l.output p))

-- ── all that is left, lent at once ──
module _ (recording : List ℕ) where
  abbrev pub all_left : (at : ℕ) → at ≤ length recording → Lent recording at
  all_left at inside =
      record {
        window = drop at recording;
        ended = true;
        output = room;
        gone = take at recording;
        beyond = [];
        all = rw append-nil (take-append-drop at recording);
        place = length-take-le at recording inside;
        none_beyond = λ _. refl;
      }

  -- from a playback on, to the end
  record Rest (p : Playback) (at : ℕ) : Type 0 where
    count : ℕ
    xs : List Delivery
    q : Playback
    end : ℕ
    steps : Steps recording p at count xs q end
    lent : Lent recording end
    r : Stepped
    after : Playback
    left : List ℕ
    promised : Promised lent q r after left
    is_over_here : is_over (way_of r) ≡ true

  module _ (p : Playback) (at : ℕ) (inside : at ≤ length recording) where
    abbrev s : Step
    s = step (drop at recording) true room p

    so : AnswersSo s
    so = answers_so (drop at recording) true room p

    one_more : is_over s.way ≡ false → Rest s.playback (at + s.took) → Rest p at
    one_more not_over rest =
        record {
          count = counted (way_of (as_stepped s)) + rest.count;
          xs = seen (as_stepped s) s.playback (over s.bytes room) ++ rest.xs;
          q = rest.q;
          end = rest.end;
          steps = Steps.next (all_left at inside) (as_stepped s) s.playback (over s.bytes room) (refl, refl, refl) (ap is_over so.way ∙ not_over)
              (subst (λ (n : ℕ). Steps recording s.playback (at + n) rest.count rest.xs rest.q rest.end) (sym so.took) rest.steps);
          lent = rest.lent;
          r = rest.r;
          after = rest.after;
          left = rest.left;
          promised = rest.promised;
          is_over_here = rest.is_over_here;
        }

    no_more : is_over s.way ≡ true → Rest p at
    no_more is_over_here =
        record {
          count = 0;
          xs = [];
          q = p;
          end = at;
          steps = Steps.start;
          lent = all_left at inside;
          r = as_stepped s;
          after = s.playback;
          left = over s.bytes room;
          promised = (refl, refl, refl);
          is_over_here = ap is_over so.way ∙ is_over_here;
        }

    pub went_on : is_over s.way ≡ false → counted s.way ≡ 1
    went_on not_over = by (not_asked (drop at recording) true room p (omega arith) (inl refl) (step_case (drop at recording) true room p))
      where
        by : (s.way ≡ On) ⊎ (s.way ≡ Over) → counted s.way ≡ 1
        by (inl e) = ap counted e
        by (inr e) = absurd (true≢false (sym (ap is_over e) ∙ not_over))

    unless_over : (is_over s.way ≡ false → Rest p at) → Rest p at
    unless_over go = by (is_over s.way) refl
      where
        by : (t : Bool) → is_over s.way ≡ t → Rest p at
        by true e = no_more e
        by false e = go e

  to_the_end : (fuel : ℕ) (u : Node) (p : Playback) (at : ℕ) → Holds u at p → (inside : at ≤ length recording) → (rest : Recording)
      → ReadBy recording at rest → held_in u.slots + (length recording - at) ≤ fuel → Rest p at
  to_the_end zero u p at holds inside rest reads few =
      unless_over p at inside λ not_over.
      let w = goes_on (all_left at inside) u p holds rest reads not_over in
      absurd (omega (arith, w.nearer, went_on p at inside not_over))
  to_the_end (suc fuel) u p at holds inside rest reads few =
      unless_over p at inside λ not_over.
      let w = goes_on (all_left at inside) u p holds rest reads not_over in
      one_more p at inside not_over
      (to_the_end fuel w.to (s p at inside).playback (at + (s p at inside).took) w.holds w.inside w.later w.reads
      (omega (arith, w.nearer, went_on p at inside not_over)))

-- ── the settings ──
pub record SomeSettings (p : Playback) (settings : List (Stream × Settings)) : Type 0 where
  pub r : Answer
  pub q : Playback
  pub set_up_call : Prepares p settings r q

pub some_settings : (settings : List (Stream × Settings)) (p : Playback) → SomeSettings p settings
some_settings [] p = record { r = Ok tt; q = p; set_up_call = all_set_up }
some_settings ((s, x) ∷ rest) p = by (some_settings rest o.playback) (is_done o.reply) refl
  where
    o : Prepared
    o = prepared s x p

    by : SomeSettings o.playback rest → (t : Bool) → is_done o.reply ≡ t → SomeSettings p ((s, x) ∷ rest)
    by more true e = record { r = more.r; q = more.q; set_up_call = Prepares.next (rw e refl, refl) more.set_up_call }
    by more false e = record { r = Err o.reply; q = o.playback; set_up_call = Prepares.refused o.reply (rw e refl, refl) }

-- ── a whole run ──
pub some_run : SomeRun
some_run settings recording = by set.r set.set_up_call
  where
    set : SomeSettings fresh_playback settings
    set = some_settings settings fresh_playback

    so : {r : Replayed} → Run settings recording r → Run settings recording (replayed_in64 (replay settings recording))
    so {r} run = subst (Run settings recording) (every_replay settings recording r run) run

    by : (r : Answer) → Prepares fresh_playback settings r set.q → Run settings recording (replayed_in64 (replay settings recording))
    by (Err reply) prepares = so (not_begun reply prepares)
    by (Ok x) prepares =
        let begun = prepares_as prepares fresh 0 fresh_holds in
        let rest =
        to_the_end recording (held_in (set_up_all settings fresh).node.slots + length recording) (set_up_all settings fresh).node set.q 0 begun.holds
        (omega arith) (recording_in recording) (every_recording_is_read recording) (omega arith) in
        so (ended prepares rest.steps rest.lent rest.r rest.after rest.left rest.promised rest.is_over_here)
