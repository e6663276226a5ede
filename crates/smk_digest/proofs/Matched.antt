-- One content, and one digest, for each path in order.
use Rattle.std.proofs.Common.{◌≡◌, ◌≢◌, ℕ, ◌+◌, ◌<◌, ◌≤◌, Bool, true, false, List, [], ◌∷◌, ◌++◌, map, length, take, drop, get_or, Option, Some, None, Err, refl, sym, ap, subst, ◌∙◌, ◌==◌, eqb-true, suc}
use Rattle.std.specs.Prelude.{option_map, if◌then◌else◌, nat_le}
use Rattle.std.specs.List.{AllZip}
use Rattle.std.proofs.lemmas.List.{take_more, take_all, take-append-drop}
use Rattle.smk_base.specs.declared.sum.Sum.{Sum as Digest}
use Rattle.smk_world.specs.declared.event.Found.TheVariants.{TooBig, Held}
use Rattle.smk_world.specs.declared.event.Node.{Node}
use Rattle.smk_world.specs.declared.event.Node.TheVariants.{Regular, Directory}
use Rattle.smk_world.specs.declared.event.NodeState.{NodeState}
use Rattle.smk_world.specs.declared.event.NodeState.TheVariants.{Owned}
use Rattle.smk_world.specs.declared.event.WorkFault.{WorkFault}
use Rattle.smk_world.specs.declared.event.WorkFault.TheVariants.{Failed, OutOfMemory}
use Rattle.smk_world.specs.World.{World, reading}
use Rattle.smk_world.specs.Calls.{found_of, device_failed}
use Rattle.smk_world.specs.Trees.{Path}
use Rattle.smk_digest.specs.declared.fault.SumFault.{SumFault}
use Rattle.smk_digest.specs.Digests.{AreContents, AreSums, IsContent, content_in, held, sum_in, sum_fault, sum_failed}
use Rattle.smk_store.specs.Trust.{sum_of}

-- what is the function's of each is the function's of all
pub all_mapped : {X Y : Type 0} (f : X → Y) (xs : List X) (ys : List Y) → AllZip (λ (x : X) (y : Y). y ≡ f x) xs ys → ys ≡ map f xs
all_mapped f [] [] h = refl
all_mapped f [] (y ∷ ys) h = absurd h
all_mapped f (x ∷ xs) [] h = absurd h
all_mapped f (x ∷ xs) (y ∷ ys) h = ap (λ z. z ∷ ys) h.0 ∙ ap (λ zs. f x ∷ zs) (all_mapped f xs ys h.1)

joined : {X Y : Type 0} (R : X → Y → Type 0) (xs xs' : List X) (ys ys' : List Y) → AllZip R xs ys → AllZip R xs' ys' → AllZip R (xs ++ xs') (ys ++ ys')
joined R [] xs' [] ys' h k = k
joined R [] xs' (y ∷ ys) ys' h k = absurd h
joined R (x ∷ xs) xs' [] ys' h k = absurd h
joined R (x ∷ xs) xs' (y ∷ ys) ys' h k = (h.0, joined R xs xs' ys ys' h.1 k)

-- ## What is read

not_read : (bytes : List ℕ) (b : Bool) → held (if b then Held bytes else TooBig (length bytes)) ≡ if b then Some bytes else None
not_read bytes true = refl
not_read bytes false = refl

pub read_is : (n : Option Node) → held (found_of 1048576 n) ≡ content_in n
read_is None = refl
read_is (Some Directory) = refl
read_is (Some (Regular bytes time read_only)) = not_read bytes (nat_le (length bytes) 1048576)

pub content_pushed : (w v : World) (ps : List Path) (i : ℕ) (p : Path) (old new : List (Option (List ℕ))) (c : Option (List ℕ)) → i < length ps → p ≡ get_or ps i p → new ≡ old ++ c ∷ [] → v.nodes ≡ w.nodes
    → AreContents w (take i ps) old → IsContent v p c → AreContents w (take (i + 1) ps) new
content_pushed w v ps i p old new c lt at made same before here =
    let now : IsContent w p c = subst (λ (n : Path → NodeState). n p ≢ Owned → c ≡ content_in (reading (n p))) same here in
    let taken : take (i + 1) ps ≡ take i ps ++ p ∷ [] = take_more ps i p lt ∙ ap (λ q. take i ps ++ q ∷ []) (sym at) in
    subst (λ qs. AreContents w qs new) (sym taken)
    (subst (λ cs. AreContents w (take i ps ++ p ∷ []) cs) (sym made) (joined (IsContent w) (take i ps) (p ∷ []) old (c ∷ []) before (now, tt)))

pub contents_done : (w : World) (ps : List Path) (i : ℕ) (contents : List (Option (List ℕ))) → length ps ≤ i → AreContents w (take i ps) contents → AreContents w ps contents
contents_done w ps i contents le h = subst (λ qs. AreContents w qs contents) (take_all i ps le) h

-- ## What is digested

pub summed : (w : World) (ps : List Path) (contents : List (Option (List ℕ))) → AreContents w ps contents → AreSums w ps (map (option_map sum_of) contents)
summed w [] [] h = tt
summed w [] (c ∷ cs) h = absurd h
summed w (p ∷ ps) [] h = absurd h
summed w (p ∷ ps) (c ∷ cs) h = (λ free. ap (option_map sum_of) (h.0 free), summed w ps cs h.1)

-- digests that were added, and those of the paths that follow
pub sums_added : (w v : World) (now later : List Path) (sums more : List (Option Digest)) → v.nodes ≡ w.nodes → AreSums v now sums → AreSums w later more → AreSums w (now ++ later) (sums ++ more)
sums_added w v now later sums more same here rest =
    let first : AreSums w now sums = subst (λ (n : Path → NodeState). AllZip (λ p s. n p ≢ Owned → s ≡ sum_in (reading (n p))) now sums) same here in
    joined (λ p s. w.nodes p ≢ Owned → s ≡ sum_in (reading (w.nodes p))) now later sums more first rest

pub both_parts : {X : Type 0} (n : ℕ) (xs front back : List X) → front ≡ take n xs → back ≡ drop n xs → front ++ back ≡ xs
both_parts n xs front back first last = ap (λ l. l ++ back) first ∙ ap (λ l. take n xs ++ l) last ∙ take-append-drop n xs

-- of no path there is no digest
pub sums_done : (w : World) (ps : List Path) (empty : Bool) → empty ≡ (length ps == 0) → empty ≡ true → AreSums w ps []
sums_done w [] empty is none = tt
sums_done w (p ∷ ps) empty is none = absurd (never (eqb-true (suc (length ps)) 0 (sym is ∙ none)))
  where
    never : suc (length ps) ≡ 0 → ⊥
    never e = cc

-- the same fault
pub failed_as : (T U : Type 0) (fault : WorkFault) (f : SumFault) → f ≡ sum_fault fault → device_failed {T = T} (Err fault) ≡ sum_failed {T = U} (Err f)
failed_as T U Failed f is = sym (ap (λ (x : SumFault). sum_failed {T = U} (Err x)) is)
failed_as T U OutOfMemory f is = sym (ap (λ (x : SumFault). sum_failed {T = U} (Err x)) is)
