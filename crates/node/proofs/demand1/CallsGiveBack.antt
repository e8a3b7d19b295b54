-- Each call on a node that calls made gives such a node back: the one that these calls and then this one make.
use Rattle.std.proofs.Common.{◌≡◌, List, [], ◌∷◌, ◌++◌, refl, ap, ◌∙◌}
use Rattle.node.specs.declared.Node.{Node}
use Rattle.node.specs.Nodes.{fresh}
use Rattle.node.specs.Clock.{Clock}
use Rattle.node.specs.Calls.{Call, outcome, after_from}
use Rattle.node.specs.Refused.{CallsGiveBack}

one_call_more : (clock : Clock) (c : Call) (n : Node) (h : List Call)
    → (outcome clock c (after_from clock n h)).node ≡ after_from clock n (h ++ (c ∷ []))
one_call_more clock c n [] = refl
one_call_more clock c n (d ∷ h) = one_call_more clock c (outcome clock d n).node h

pub calls_give_back : CallsGiveBack
calls_give_back clock c n (h, made) = (h ++ (c ∷ []), ap (λ (m : Node). (outcome clock c m).node) made ∙ one_call_more clock c fresh h)
