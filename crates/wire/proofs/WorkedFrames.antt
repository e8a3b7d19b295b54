-- The worked frames are answered as their table says.
use mathlib.Core.Path.{refl}
use Rattle.wire.specs.WorkedFrames.{frame_rows, FramesAsWorked}

pub frames_as_worked : FramesAsWorked
unfolding frame_rows
frames_as_worked = refl
