-- What is gathered of names, one step after another, and the folders of nodes.
use Rattle.std.proofs.Common.{◌≡◌, ◌<◌, ◌+◌, ℕ, Bool, true, false, ◌||◌, ◌&&◌, ◌==◌, List, [], ◌∷◌, ◌++◌, take, get_or, length, refl, ap, sym, ◌∙◌, Option, Some, None, bytes_eq, add-one, append_assoc, append-nil}
use Rattle.std.proofs.lemmas.Bool.{eqb-true, eq-eqb}
use Rattle.std.proofs.Math.Bool.{or-false, or_assoc}
use Rattle.smk_base.specs.Path.{is_under}
use Rattle.smk_world.specs.declared.event.Node.{Node}
use Rattle.smk_world.specs.declared.event.Node.TheVariants.{Regular, Directory}
use Rattle.smk_world.specs.World.{is_named, folders_above}
use Rattle.smk_world_nodes.specs.Nodes.{is_folder_there}
use Rattle.smk_world_nodes.specs.declared.step.Step.{Step}
use Rattle.smk_world_nodes.proofs.Above.{is_short_above, short_more}
use Rattle.smk_world_crash.specs.Crash.{names_by, all_names}
use Rattle.smk_world_crash.proofs.Images.{named_both, named_above}

pub named_goes_on : (q p : List ℕ) (ps : List (List ℕ)) (now more whole : Bool) → more ≡ (now || bytes_eq q p) → (now || is_named q (p ∷ ps)) ≡ whole → (more || is_named q ps) ≡ whole
named_goes_on q p ps now more whole is before = ap (λ b. b || is_named q ps) is ∙ or_assoc now (bytes_eq q p) (is_named q ps) ∙ before

all_both : (xs ys : List Step) → all_names (xs ++ ys) ≡ all_names xs ++ all_names ys
all_both [] ys = refl
all_both (x ∷ xs) ys = ap (λ ns. names_by x ++ ns) (all_both xs ys) ∙ sym (append_assoc (names_by x) (all_names xs) (all_names ys))

-- the names of one step more
pub names_more : (q : List ℕ) (x : Step) (xs more : List Step) (first now new : Bool) → more ≡ xs ++ x ∷ [] → now ≡ (first || is_named q (all_names xs)) → new ≡ (now || is_named q (names_by x))
    → new ≡ (first || is_named q (all_names more))
names_more q x xs more first now new is before one =
    one ∙ ap (λ b. b || is_named q (names_by x)) before ∙ or_assoc first (is_named q (all_names xs)) (is_named q (names_by x))
    ∙ ap (λ b. first || b) (sym (named_both q (all_names xs) (names_by x)))
    ∙ ap (λ ns. first || is_named q ns) (ap (λ ns. all_names xs ++ ns) (sym (append-nil (names_by x))) ∙ sym (all_both xs (x ∷ [])) ∙ ap all_names (sym is))

-- the name itself
pub name_added : (q p text : List ℕ) (ps new : List (List ℕ)) → new ≡ ps ++ text ∷ [] → text ≡ p → is_named q new ≡ (is_named q ps || bytes_eq q p)
name_added q p text ps new is same =
    ap (is_named q) is ∙ named_both q ps (text ∷ []) ∙ ap (λ b. is_named q ps || b) (or-false (bytes_eq q text)) ∙ ap (λ t. is_named q ps || bytes_eq q t) same

pub both_added : (a b n0 n1 n2 : Bool) → n1 ≡ (n0 || a) → n2 ≡ (n1 || b) → n2 ≡ (n0 || (a || b))
both_added a b n0 n1 n2 one two = two ∙ ap (λ n. n || b) one ∙ or_assoc n0 a b

pub lists_added : (q : List ℕ) (ps fs : List (List ℕ)) (n0 n1 n2 : Bool) → n1 ≡ (n0 || is_named q ps) → n2 ≡ (n1 || is_named q fs) → n2 ≡ (n0 || is_named q (ps ++ fs))
lists_added q ps fs n0 n1 n2 one two = both_added (is_named q ps) (is_named q fs) n0 n1 n2 one two ∙ ap (λ b. n0 || b) (sym (named_both q ps fs))

pub above_added : (q p : List ℕ) (n0 n1 : Bool) → n1 ≡ (n0 || is_under p q) → n1 ≡ (n0 || is_named q (folders_above p))
above_added q p n0 n1 is = is ∙ ap (λ b. n0 || b) (sym (named_above p q))

pub put_added : (q p : List ℕ) (n0 n1 : Bool) → n1 ≡ (n0 || (bytes_eq q p || is_under p q)) → n1 ≡ (n0 || is_named q (p ∷ folders_above p))
put_added q p n0 n1 is = is ∙ ap (λ b. n0 || (bytes_eq q p || b)) (sym (named_above p q))

-- ## The folders above a place, one slash after another

not_slash : (b : ℕ) → (b ≡ 47 → ⊥) → (b == 47) ≡ false
not_slash b other = elim (b == 47) as (λ v. (b == 47) ≡ v → v ≡ false) [ true ↦ λ e. absurd (other (eqb-true b 47 e)) | false ↦ λ e. refl ] refl

pub folder_named : (p : List ℕ) (i : ℕ) (q range : List ℕ) (n0 n1 n2 : Bool) → i < length p → get_or p i 0 ≡ 47 → range ≡ take i p
    → n1 ≡ (n0 || is_short_above p i q) → n2 ≡ (n1 || bytes_eq q range) → n2 ≡ (n0 || is_short_above p (i + 1) q)
folder_named p i q range n0 n1 n2 lt slash is one two =
    two ∙ ap (λ r. n1 || bytes_eq q r) is ∙ ap (λ n. n || bytes_eq q (take i p)) one
    ∙ or_assoc n0 (is_short_above p i q) (bytes_eq q (take i p))
    ∙ ap (λ v. n0 || (is_short_above p i q || v)) (ap (λ v. v && bytes_eq q (take i p)) (sym (eq-eqb (get_or p i 0) 47 slash)))
    ∙ ap (λ v. n0 || v) (sym (short_more p i q lt)) ∙ rw add-one refl

pub none_named : (p : List ℕ) (i : ℕ) (q : List ℕ) (n0 n1 : Bool) → i < length p → (get_or p i 0 ≡ 47 → ⊥) → n1 ≡ (n0 || is_short_above p i q) → n1 ≡ (n0 || is_short_above p (i + 1) q)
none_named p i q n0 n1 lt other one =
    one ∙ ap (λ v. n0 || v) (sym (short_more p i q lt ∙ ap (λ g. is_short_above p i q || (g && bytes_eq q (take i p))) (not_slash (get_or p i 0) other) ∙ or-false (is_short_above p i q))) ∙ rw add-one refl

-- ## Folders

pub folder_there : (n : Option Node) → is_folder_there n ≡ true → n ≡ Some Directory
folder_there None h = cc
folder_there (Some (Regular bytes time read_only)) h = cc
folder_there (Some Directory) h = refl
