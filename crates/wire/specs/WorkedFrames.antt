-- Worked frames: an identifier, a DLC and how many bytes come with it, and what is answered of them.
use Rattle.std.specs.Prelude.{ℕ, ◌≡◌, List, [], ◌∷◌, map}
use Rattle.wire.specs.declared.ids.BusId.{BusId}
use Rattle.wire.specs.declared.reply.Reply.{Reply}
use Rattle.wire.specs.declared.reply.Reply.TheVariants.{Done, IdentifierTooBig, DlcTooBig, PayloadLength, UnwantedPayload}
use Rattle.wire.specs.Refusals.{reply_of}
use Rattle.wire.specs.Frames.{is_bare, frame_refusals}

pub record Row : Type 0 where
  pub id : ℕ
  pub dlc : ℕ
  pub length : ℕ
  pub reply : Reply

abbrev frame : (id dlc length : ℕ) → Reply → Row
frame id dlc length reply = record { id = id; dlc = dlc; length = length; reply = reply }

unfoldable pub frame_rows : List Row
frame_rows =
    -- a DLC up to 8 means as many bytes
    frame 20 0 0 Done ∷
    frame 20 7 7 Done ∷
    frame 20 7 8 PayloadLength ∷
    frame 20 8 7 PayloadLength ∷
    frame 20 8 8 Done ∷
    -- 9 to 15 mean eight
    frame 20 9 8 Done ∷
    frame 20 9 9 PayloadLength ∷
    frame 20 15 8 Done ∷
    frame 20 15 15 PayloadLength ∷
    -- there is no higher one, whatever comes with it
    frame 20 16 8 DlcTooBig ∷
    frame 20 16 16 DlcTooBig ∷
    frame 20 255 8 DlcTooBig ∷
    -- data and plain frames may have a payload, confirmations and aborts have none
    frame 23 15 8 Done ∷
    frame 21 0 0 Done ∷
    frame 21 1 1 UnwantedPayload ∷
    frame 21 9 8 UnwantedPayload ∷
    frame 22 0 0 Done ∷
    frame 22 15 8 UnwantedPayload ∷
    -- the length is judged before that, and the DLC before both
    frame 21 1 0 PayloadLength ∷
    frame 22 9 9 PayloadLength ∷
    frame 22 16 16 DlcTooBig ∷
    -- the highest identifier, and one more, which is judged first
    frame 536870911 8 8 Done ∷
    frame 536870912 8 8 IdentifierTooBig ∷
    frame 536870912 16 8 IdentifierTooBig ∷
    frame 536870913 1 0 IdentifierTooBig ∷
    []

abbrev answered : Row → Reply
answered r = let id : BusId = record { 0 = r.id } in reply_of (frame_refusals (is_bare id) id r.dlc r.length)

abbrev pub FramesAsWorked : Type 0
FramesAsWorked = map answered frame_rows ≡ map (λ (r : Row). r.reply) frame_rows
