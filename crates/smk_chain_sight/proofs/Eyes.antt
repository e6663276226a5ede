-- What is told, call after call.
use Rattle.std.proofs.Common.{◌≡◌, ◌≢◌, ℕ, Bool, true, false, List, [], ◌∷◌, map, refl, sym, ap, subst, ◌∙◌, Some, Result, Ok, Err}
use Rattle.std.specs.Prelude.{if◌then◌else◌, IfErr}
use Rattle.std.specs.List.{AllByRecursion}
use Rattle.smk_base.specs.Path.{is_path}
use Rattle.smk_base.proofs.Under.{never_both}
use Rattle.smk_world.specs.declared.event.NodeState.{NodeState}
use Rattle.smk_world.specs.declared.event.NodeState.TheVariants.{Owned}
use Rattle.smk_world.specs.Devices.{Device, HasLooked}
use Rattle.smk_world.specs.Trees.{Path, Act, is_path_text}
use Rattle.smk_world.proofs.Devices.{still}
use Rattle.smk_pattern.specs.Shapes.{Text}
use Rattle.smk_flow.specs.Flows.{Flow, Candidate}
use Rattle.smk_choose.specs.declared.sources.Standing.{Standing}
use Rattle.smk_choose.specs.declared.sources.Sources as kept
use Rattle.smk_choose.specs.declared.choice.Making.{Making}
use Rattle.smk_choose.specs.Choose.{Sources, candidates}
use Rattle.smk_choose.specs.Told.{standing_of, is_told, told_by, making}
use Rattle.smk_choose.specs.Finding.{places_in, places_by}
use Rattle.smk_choose.proofs.Listed.{Placed, listed_placed}
use Rattle.smk_store.specs.Images.{Image}
use Rattle.smk_store.specs.Stores.{Known, is_covered_in}
use Rattle.smk_chain.specs.declared.fault.SightFault.TheVariants.{TooManyPaths, Device as DeviceFault, OutOfMemory as MemoryFault}
use Rattle.smk_chain.specs.Derive.{sources_of}
use Rattle.smk_chain_sight.specs.declared.telling.Eye.{Eye}
use Rattle.smk_chain_sight.specs.Sight.{fitting, places, SameAt, SameAround}
use Rattle.smk_chain_sight.specs.Viewing.{Viewed}
use Rattle.smk_chain_sight.specs.Telling.{IsTrue, IsListed, Keeps, HasTold, ArePlacesListed, IsListedAround, candidates_by, Says}
use Rattle.smk_chain_sight.proofs.Agree.{all_weaker, candidates_same}

-- ## One call after another

pub told_nothing : (a : Device) (store : List Known) (x : Eye) → HasTold a store x x
told_nothing a store x = record { keeps = λ q s h. h; stays = λ w at image v t. t }

pub told_then : {act : Act} {a b : Device} {store : List Known} {x y z : Eye} → HasLooked act a b false → HasTold a store x y → HasTold b store y z → HasTold a store x z
told_then {store = store} looked first second =
    record {
      keeps = λ q s h. second.keeps q s (first.keeps q s h);
      stays = λ w at image v t.
          let u = still w looked at in
          second.stays u.0 u.1 image (subst (λ (n : Path → NodeState). Viewed n store image) (sym u.2) v) (first.stays w at image v t);
    }

pub viewed_still : (a b : Path → NodeState) (store : List Known) (image : Image) → b ≡ a → Viewed a store image → Viewed b store image
viewed_still a b store image e v = subst (λ (n : Path → NodeState). Viewed n store image) (sym e) v

-- ## What was told stays told

pub listed_on : (x y : Eye) (p : Path) → Keeps x y → IsListed x p → IsListed y p
listed_on x y p keeps l = (l.0, keeps p l.0 l.1)

pub texts_on : (x y : Eye) (ts : List Text) → Keeps x y → AllByRecursion (λ (t : Text). is_path t ≡ true → IsListed x t) ts → AllByRecursion (λ (t : Text). is_path t ≡ true → IsListed y t) ts
texts_on x y ts keeps all = all_weaker (λ (t : Text). is_path t ≡ true → IsListed x t) (λ (t : Text). is_path t ≡ true → IsListed y t) (λ t h e. listed_on x y t keeps (h e)) ts all

abbrev pub JobTold : Flow → Eye → Making → Type 0
JobTold flow x m = AllByRecursion (λ (t : Text). is_path t ≡ true → IsListed x t) (places_by flow m)

pub jobs_on : (flow : Flow) (x y : Eye) (ms : List Making) → Keeps x y → AllByRecursion (JobTold flow x) ms → AllByRecursion (JobTold flow y) ms
jobs_on flow x y ms keeps all = all_weaker (JobTold flow x) (JobTold flow y) (λ m h. texts_on x y (places_by flow m) keeps h) ms all

pub is_by : (s : kept.Sources) (p : Path) (t : Standing) → standing_of s p ≡ Some t → (told_by s).is p ≡ t.source
is_by s p t h = ap (is_told (λ (u : Standing). u.source)) h

pub holds_by : (s : kept.Sources) (p : Path) (t : Standing) → standing_of s p ≡ Some t → (told_by s).holds p ≡ t.holds
holds_by s p t h = ap (is_told (λ (u : Standing). u.holds)) h

pub around_on : (flow : Flow) (x y : Eye) (p : Path) → Keeps x y → IsListedAround flow x p → IsListedAround flow y p
around_on flow x y p keeps a = (
  listed_on x y p keeps a.0,
  λ e. all_weaker (λ (c : Candidate). AllByRecursion (λ (t : Text). is_path t ≡ true → IsListed x t) (places flow c)) (λ (c : Candidate). AllByRecursion (λ (t : Text). is_path t ≡ true → IsListed y t) (places flow c))
      (λ c h. texts_on x y (places flow c) keeps h) (fitting flow p)
      (a.1 (is_by x.sources p a.0.0 a.0.1 ∙ sym (is_by y.sources p a.0.0 (keeps p a.0.0 a.0.1)) ∙ e)),
)

pub arounds_on : (flow : Flow) (x y : Eye) (ps : List Path) → Keeps x y → AllByRecursion (IsListedAround flow x) ps → AllByRecursion (IsListedAround flow y) ps
arounds_on flow x y ps keeps all = all_weaker (IsListedAround flow x) (IsListedAround flow y) (λ p a. around_on flow x y p keeps a) ps all

-- ## Where jobs write

pub places_at : (flow : Flow) (c : Candidate) → Placed flow.rules c → places_by flow (making c) ≡ places flow c
places_at flow c at = ap (places_in flow (making c)) at

jobs_told : (flow : Flow) (x : Eye) (cs : List Candidate) → AllByRecursion (Placed flow.rules) cs → AllByRecursion (JobTold flow x) (map making cs)
    → AllByRecursion (λ (c : Candidate). AllByRecursion (λ (t : Text). is_path t ≡ true → IsListed x t) (places flow c)) cs
jobs_told flow x [] placed all = tt
jobs_told flow x (c ∷ cs) placed all =
    (subst (λ (ts : List Text). AllByRecursion (λ (t : Text). is_path t ≡ true → IsListed x t) ts) (places_at flow c placed.0) all.0, jobs_told flow x cs placed.1 all.1)

pub fitting_told : (flow : Flow) (x : Eye) (p : Path) (ms : List Making) → ms ≡ map making (fitting flow p) → AllByRecursion (JobTold flow x) ms → ArePlacesListed flow x p
fitting_told flow x p ms e all = jobs_told flow x (fitting flow p) (listed_placed flow p) (subst (AllByRecursion (JobTold flow x)) e all)

-- ## What it says

pub says_true : (image : Image) (x : Eye) → IsTrue image x → Says x (sources_of image)
says_true image x t = record { is = λ q s h. (t.told q s h).0; holds = λ q s h. (t.told q s h).1 }

pub says_before : (x y : Eye) (S : Sources) → Keeps x y → Says y S → Says x S
says_before x y S keeps says = record { is = λ q s h. says.is q s (keeps q s h); holds = λ q s h. says.holds q s (keeps q s h) }

pub same_at : (x : Eye) (S : Sources) (p : Path) → Says x S → IsListed x p → SameAt S (told_by x.sources) p
same_at x S p says l = (is_by x.sources p l.0 l.1 ∙ says.is p l.0 l.1, holds_by x.sources p l.0 l.1 ∙ says.holds p l.0 l.1)

pub same_around : (flow : Flow) (x : Eye) (S : Sources) (p : Path) → Says x S → IsListedAround flow x p → SameAround flow S (told_by x.sources) p
same_around flow x S p says a =
    let here = same_at x S p says a.0 in (
      here,
      λ e. all_weaker (λ (c : Candidate). AllByRecursion (λ (t : Text). is_path t ≡ true → IsListed x t) (places flow c)) (λ (c : Candidate). AllByRecursion (λ (q : Text). is_path q ≡ true → SameAt S (told_by x.sources) q) (places flow c))
          (λ c h. all_weaker (λ (t : Text). is_path t ≡ true → IsListed x t) (λ (q : Text). is_path q ≡ true → SameAt S (told_by x.sources) q) (λ q l path. same_at x S q says (l path)) (places flow c) h)
          (fitting flow p) (a.1 (here.0 ∙ e)),
    )

-- the candidates are the same by what is said
pub candidates_said : (flow : Flow) (x : Eye) (S : Sources) (p : Path) → Says x S → IsListedAround flow x p → candidates_by flow (told_by x.sources) p ≡ candidates_by flow S p
candidates_said flow x S p says a = go (S.is p) refl
  where
    here : SameAround flow S (told_by x.sources) p
    here = same_around flow x S p says a

    go : (b : Bool) → S.is p ≡ b → candidates_by flow (told_by x.sources) p ≡ candidates_by flow S p
    go true e =
        ap (λ b. if b then [] else candidates flow (told_by x.sources) p) (here.0.0 ∙ e)
        ∙ sym (ap (λ b. if b then [] else candidates flow S p) e)
    go false e =
        ap (λ b. if b then [] else candidates flow (told_by x.sources) p) (here.0.0 ∙ e)
        ∙ candidates_same flow S (told_by x.sources) p here e
        ∙ sym (ap (λ b. if b then [] else candidates flow S p) e)

-- a source has none
pub no_candidates : (flow : Flow) (S : Sources) (p : Path) → S.is p ≡ true → [] ≡ map making (candidates_by flow S p)
no_candidates flow S p e = sym (ap (λ (b : Bool). map making (if b then [] else candidates flow S p)) e)

pub its_candidates : (flow : Flow) (S : Sources) (p : Path) → S.is p ≡ false → candidates flow S p ≡ candidates_by flow S p
its_candidates flow S p e = sym (ap (λ (b : Bool). if b then [] else candidates flow S p) e)

-- no child owns the place of a path that isn't covered
pub unowned_at : (nodes : Path → NodeState) (store : List Known) (image : Image) → Viewed nodes store image → (p q : Path) → q ≡ p → is_path_text p ≡ true → is_covered_in store p ≡ false → nodes q ≢ Owned
unowned_at nodes store image v p q e path uncovered = subst (λ t. nodes t ≢ Owned) (sym e) (λ owned. never_both (is_covered_in store p) (v.owned p path owned) uncovered)

-- want of memory is another fault
pub never_many : (count : ℕ) → MemoryFault ≡ TooManyPaths count → ⊥
never_many count e = cc

-- ## Answers

never_path : (b : Bool) (P : Type 0) → b ≡ false → b ≡ true → P
never_path true P e h = absurd (wrong e)
  where
    wrong : true ≡ false → ⊥
    wrong q = cc
never_path false P e h = absurd (wrong h)
  where
    wrong : false ≡ true → ⊥
    wrong q = cc

pub no_path_listed : (x : Eye) (t : Path) → is_path t ≡ false → is_path t ≡ true → IsListed x t
no_path_listed x t e h = never_path (is_path t) (IsListed x t) e h

pub path_listed : (x : Eye) (t p : Path) → p ≡ t → IsListed x p → is_path t ≡ true → IsListed x t
path_listed x t p e l path = subst (IsListed x) e l

pub if_err : {T E : Type 0} (r : Result T E) (P Q : E → Type 0) → ((e : E) → P e → Q e) → IfErr r P → IfErr r Q
if_err (Ok t) P Q more h = h
if_err (Err e) P Q more h = more e h

pub same_count : (a b : ℕ) → TooManyPaths a ≡ TooManyPaths b → a ≡ b
same_count a b e = cc

pub never_device : (count : ℕ) → DeviceFault ≡ TooManyPaths count → ⊥
never_device count e = cc
