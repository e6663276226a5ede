-- Texts that are read, one list after another.
use Rattle.std.proofs.Common.{◌≡◌, inl, inr, List, [], ◌∷◌, ◌++◌, sym, subst}
use Rattle.std.specs.List.{flat_map}
use Rattle.smk_base.specs.declared.tree.Pair.{Pair}
use Rattle.smk_flow.specs.declared.rule.RulePart.{RulePart}
use Rattle.smk_flow.specs.declared.rule.InPart.{InPart}
use Rattle.smk_flow.specs.declared.fault.FlowFault.{FlowFault}
use Rattle.smk_flow.specs.Checks.{Written, in_texts, AreRead, AreUnread}

pub read_both : (limits : List Pair) (a b : List Written) → AreRead limits a → AreRead limits b → AreRead limits (a ++ b)
read_both limits [] b ha hb = hb
read_both limits (w ∷ a) b ha hb = (ha.0, read_both limits a b ha.1 hb)

pub unread_first : (part : RulePart) (f : FlowFault) (a b : List Written) → AreUnread part a f → AreUnread part (a ++ b) f
unread_first part f [] b h = absurd h
unread_first part f (w ∷ a) b (inl h) = inl h
unread_first part f (w ∷ a) b (inr h) = inr (h.0, unread_first part f a b h.1)

pub unread_later : (part : RulePart) (f : FlowFault) (a b : List Written) → AreRead part.limits a → AreUnread part b f → AreUnread part (a ++ b) f
unread_later part f [] b ha h = h
unread_later part f (w ∷ a) b ha h = inr (ha.0, unread_later part f a b ha.1 h)

-- ---- one more item of inputs

pub read_more : (limits : List Pair) (inputs later : List InPart) (item : InPart) → inputs ≡ item ∷ later → AreRead limits (in_texts item) →
    AreRead limits (flat_map in_texts later) → AreRead limits (flat_map in_texts inputs)
read_more limits inputs later item e here h =
    subst (λ (xs : List InPart). AreRead limits (flat_map in_texts xs)) (sym e) (read_both limits (in_texts item) (flat_map in_texts later) here h)

pub unread_here : (part : RulePart) (f : FlowFault) (inputs later : List InPart) (item : InPart) → inputs ≡ item ∷ later → AreUnread part (in_texts item) f →
    AreUnread part (flat_map in_texts inputs) f
unread_here part f inputs later item e here =
    subst (λ (xs : List InPart). AreUnread part (flat_map in_texts xs) f) (sym e) (unread_first part f (in_texts item) (flat_map in_texts later) here)

pub unread_more : (part : RulePart) (f : FlowFault) (inputs later : List InPart) (item : InPart) → inputs ≡ item ∷ later → AreRead part.limits (in_texts item) →
    AreUnread part (flat_map in_texts later) f → AreUnread part (flat_map in_texts inputs) f
unread_more part f inputs later item e here h =
    subst (λ (xs : List InPart). AreUnread part (flat_map in_texts xs) f) (sym e) (unread_later part f (in_texts item) (flat_map in_texts later) here h)
