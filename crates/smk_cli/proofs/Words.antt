-- Words are refused with one fault, or ask for something that is built.
use Rattle.std.proofs.Common.{◌≡◌, ◌⊎◌, true, false, List, inl, inr, refl, sym, ap, subst, ◌∙◌, Result, Ok, Err, true≢false}
use Rattle.std.specs.Prelude.{IfErr}
use Rattle.smk_words_reading.specs.declared.asked.Asked.{Asked as Request}
use Rattle.smk_words_reading.specs.Words.{Text}
use Rattle.smk_words_reading.specs.Asks.{IsAsked}
use Rattle.smk_words_reading.proofs.Whole.{one_asked, none_asked_without_cores}
use Rattle.smk_report.specs.declared.fault.Fault.{Fault}
use Rattle.smk_report.specs.declared.fault.Fault.TheVariants as fault
use Rattle.smk_cli_entry.specs.Faults.{is_device, is_sink}
use Rattle.smk_cli_calls.specs.Words.{RefusesWords, Unread, WithoutCores, NotBuilt, is_built}

-- what is built isn't refused
pub built_unrefused : (words : List Text) (f : Fault) (request : Request) → IsAsked words request → is_built request ≡ true → RefusesWords words f → ⊥
built_unrefused words _ request asked built (Unread none) = none.0 request asked
built_unrefused words _ request asked built (WithoutCores lacks) = none_asked_without_cores words request asked lacks
built_unrefused words _ request asked built (NotBuilt other also unbuilt) =
    true≢false (sym built ∙ (ap is_built (one_asked words request other asked also) ∙ unbuilt))

-- words are refused with one fault
pub one_refusal : (words : List Text) (f g : Fault) → RefusesWords words f → RefusesWords words g → f ≡ g
one_refusal words _ _ (Unread a) (Unread b) = refl
one_refusal words _ _ (Unread a) (WithoutCores b) = absurd (a.1 b)
one_refusal words _ _ (Unread a) (NotBuilt other also unbuilt) = refl
one_refusal words _ _ (WithoutCores a) (Unread b) = absurd (b.1 a)
one_refusal words _ _ (WithoutCores a) (WithoutCores b) = refl
one_refusal words _ _ (WithoutCores a) (NotBuilt other also unbuilt) = absurd (none_asked_without_cores words other also a)
one_refusal words _ _ (NotBuilt other also unbuilt) (Unread b) = refl
one_refusal words _ _ (NotBuilt other also unbuilt) (WithoutCores b) = absurd (none_asked_without_cores words other also b)
one_refusal words _ _ (NotBuilt other also unbuilt) (NotBuilt more too neither) = refl

-- ## What is answered

abbrev pub IsEarly : List Text → Fault → Type 0
IsEarly words f = (f ≡ fault.OutOfMemory) ⊎ RefusesWords words f

-- what isn't built is refused
pub early_unbuilt : (words : List Text) (request : Request) (r : Result Request Fault) → IsAsked words request → IfErr r (λ f. (f ≡ fault.BadWords) × (is_built request ≡ false)) → IfErr r (IsEarly words)
early_unbuilt words request (Ok a) asked h = tt
early_unbuilt words request (Err f) asked h = inr (subst (RefusesWords words) (sym h.0) (NotBuilt request asked h.1))

-- no fault of the device, and none of the sink
pub early_calm : (words : List Text) (f : Fault) → IsEarly words f → is_device f ≡ false
early_calm words f (inl e) = ap is_device e
early_calm words _ (inr (Unread none)) = refl
early_calm words _ (inr (WithoutCores lacks)) = refl
early_calm words _ (inr (NotBuilt other also unbuilt)) = refl

pub early_quiet : (words : List Text) (f : Fault) → IsEarly words f → is_sink f ≡ false
early_quiet words f (inl e) = ap is_sink e
early_quiet words _ (inr (Unread none)) = refl
early_quiet words _ (inr (WithoutCores lacks)) = refl
early_quiet words _ (inr (NotBuilt other also unbuilt)) = refl

-- where words are refused, that is the fault, or want of memory
pub early_refusal : (words : List Text) (f g : Fault) → IsEarly words g → RefusesWords words f
    → (◌≡◌ {A = Result (Unit {0}) Fault} (Err g) (Err f)) ⊎ (◌≡◌ {A = Result (Unit {0}) Fault} (Err g) (Err fault.OutOfMemory))
early_refusal words f g (inl e) refused = inr (ap (λ x. Err x) e)
early_refusal words f g (inr also) refused = inl (ap (λ x. Err x) (one_refusal words g f also refused))

-- where what they ask is built, it is want of memory
pub early_want : (words : List Text) (f : Fault) (request : Request) → IsAsked words request → is_built request ≡ true → IsEarly words f → f ≡ fault.OutOfMemory
early_want words f request asked built (inl e) = e
early_want words f request asked built (inr refused) = absurd (built_unrefused words f request asked built refused)
