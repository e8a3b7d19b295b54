-- Laws on the settings that seven words say.
use mathlib.Core.Bool.{Bool, ◌&&◌}
use Rattle.std.specs.Bool.{IsTrue}
use Rattle.text.proofs.WordLaws.{both}

-- seven tests hold together where each of them holds
pub all_hold : (a b c d e f g : Bool) → IsTrue (a && b && c && d && e && f && g)
    → IsTrue a × IsTrue b × IsTrue c × IsTrue d × IsTrue e × IsTrue f × IsTrue g
all_hold a b c d e f g h =
    let p = both _ g h in
    let q = both _ f p.0 in
    let r = both _ e q.0 in
    let s = both _ d r.0 in
    let t = both _ c s.0 in
    let u = both a b t.0 in
    (u.0, u.1, t.1, s.1, r.1, q.1, p.1)
