-- Sources that are gone over, and looked at.
use Rattle.std.proofs.Common.{◌≡◌, ◌≢◌, ℕ, suc, ◌+◌, ◌<◌, Bool, List, [], ◌∷◌, ◌++◌, length, take, drop, get_or, refl, sym, ap, subst, ◌∙◌, None, arith, append_assoc, add-one, drop-cons}
use Rattle.std.specs.Prelude.{All}
use Rattle.std.specs.List.{zip}
use Rattle.std.proofs.lemmas.List.{take_more}
use Rattle.std.proofs.lemmas.List.Elements.{All-get_or}
use Rattle.std.proofs.lemmas.List.Sums.{fold-append}
use Rattle.smk_world.specs.declared.event.NodeState.{NodeState}
use Rattle.smk_world.specs.declared.event.NodeState.TheVariants.{Owned}
use Rattle.smk_world.specs.World.{World}
use Rattle.smk_world.specs.Trees.{Path}
use Rattle.smk_record.specs.declared.record.Stamp.{Stamp}
use Rattle.smk_store.specs.declared.sources.Source.{Source}
use Rattle.smk_store.specs.Sources.{source_of, sources_of, first_seen, is_seen, earlier}

-- ## Inputs, each with its stamp

zip_none : (qs : List Path) (ss : List Stamp) → ss ≡ [] → zip qs ss ≡ []
zip_none [] ss e = refl
zip_none (q ∷ qs) ss e = ap (λ t. zip (q ∷ qs) t) e

none_of : (ss : List Stamp) → length ss ≡ 0 → ss ≡ []
none_of [] e = refl
none_of (s ∷ ss) e = absurd (omega arith)

pub none_left : (p : Path) (found : List Source) (q : Path) (later : List Path) (ss : List Stamp) → length ss ≡ 0
    → found ++ sources_of p (zip later ss) ≡ found ++ sources_of p (zip (q ∷ later) ss)
none_left p found q later ss e = let none : ss ≡ [] = none_of ss e in ap (λ t. found ++ sources_of p t) (zip_none later ss none ∙ sym (zip_none (q ∷ later) ss none))

pub one_left : (p : Path) (found now : List Source) (q : Path) (s : Stamp) (rest ss : List Stamp) (later : List Path) → rest ≡ s ∷ ss → now ≡ found ++ source_of p (q, s)
    → now ++ sources_of p (zip later ss) ≡ found ++ sources_of p (zip (q ∷ later) rest)
one_left p found now q s rest ss later cut e =
    ap (λ t. t ++ sources_of p (zip later ss)) e ∙ append_assoc found (source_of p (q, s)) (sources_of p (zip later ss)) ∙ ap (λ t. found ++ sources_of p (zip (q ∷ later) t)) (sym cut)

pub dropped : {X : Type 0} (xs : List X) (i : ℕ) (x : X) → i < length xs → x ≡ get_or xs i x → drop i xs ≡ x ∷ drop (i + 1) xs
dropped xs i x lt e = drop-cons xs i x lt ∙ ap (λ y. y ∷ drop (suc i) xs) (sym e) ∙ ap (λ k. x ∷ drop k xs) (sym (add-one i))

-- ## The first of them

pub seen_next : (seen : Source → Bool) (xs : List Source) (i : ℕ) (x : Source) → i < length xs → x ≡ get_or xs i x
    → earlier (first_seen seen (take i xs)) x.path (seen x) ≡ first_seen seen (take (i + 1) xs)
seen_next seen xs i x lt e =
    sym (ap (first_seen seen) (take_more xs i x lt ∙ ap (λ q. take i xs ++ q ∷ []) (sym e)) ∙ fold-append (λ first (s : Source). earlier first s.path (seen s)) None (take i xs) (x ∷ []))

-- no child owns the source of this number, after looks
pub source_free : (a b : Path → NodeState) (xs : List Source) (i : ℕ) (x : Source) → i < length xs → x ≡ get_or xs i x → b ≡ a → All (λ (s : Source). a s.path ≢ Owned) xs → b x.path ≢ Owned
source_free a b xs i x lt e same free =
    subst (λ (n : Path → NodeState). n x.path ≢ Owned) (sym same)
    (subst (λ (s : Source). a s.path ≢ Owned) (sym e) (All-get_or (λ (s : Source). a s.path ≢ Owned) xs i x lt free))

pub seen_same : (w v : World) (s : Source) → v.nodes ≡ w.nodes → is_seen v s ≡ is_seen w s
seen_same w v s same = ap (λ (n : Path → NodeState). is_seen (record w { nodes = n }) s) same
