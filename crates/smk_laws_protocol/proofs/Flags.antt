-- What the flag of a protected file leaves: the same node but for the flag.
use Rattle.std.proofs.Common.{◌≡◌, ◌⊎◌, false, List, [], ◌∷◌, ◌++◌, map, refl, ap, inl, inr, ◌∙◌, Option, Some, None}
use Rattle.std.specs.Prelude.{is_some, is_none, option_map}
use Rattle.smk_world.specs.declared.event.Besides.{Besides as LeftBesides}
use Rattle.smk_world.specs.declared.event.Besides.TheVariants.{Anything, OneOf}
use Rattle.smk_world.specs.declared.event.Node.{Node}
use Rattle.smk_world.specs.declared.event.Node.TheVariants.{Regular, Directory}
use Rattle.smk_world.specs.declared.event.NodeState.{NodeState}
use Rattle.smk_world.specs.declared.event.NodeState.TheVariants.{Owned, Known}
use Rattle.smk_base.specs.declared.tree.Tree.TheVariants.{File}
use Rattle.smk_store.specs.Images.{Content, is_directory, bytes_of}
use Rattle.smk_laws_protocol.proofs.View.{file_of}
use Rattle.smk_world.specs.World.{MayLeave, IsBeside, IsOneOf, reading, going, with_flag, protected, or_was, or_gone, or_also, or_protected}
use Rattle.smk_laws_protocol.proofs.Basics.{clash}
use Rattle.smk_laws_protocol.proofs.Shrunk.{going_some}

-- the same node, or that with the flag
abbrev pub IsFlagged : Option Node → Option Node → Type 0
IsFlagged m n = (m ≡ n) ⊎ (m ≡ option_map protected n)

-- ---- what a flag leaves

in_both : (ns ms : List (Option Node)) (m : Option Node) → IsOneOf (ns ++ ms) m → IsOneOf ns m ⊎ IsOneOf ms m
in_both [] ms m h = inr h
in_both (n ∷ ns) ms m (inl h) = inl (inl h)
in_both (n ∷ ns) ms m (inr h) = turn (in_both ns ms m h)
  where
    turn : IsOneOf ns m ⊎ IsOneOf ms m → IsOneOf (n ∷ ns) m ⊎ IsOneOf ms m
    turn (inl k) = inl (inr k)
    turn (inr k) = inr k

in_flagged : (ns : List (Option Node)) (m : Option Node) → IsOneOf (map (option_map protected) ns) m → (n : Option Node) × IsOneOf ns n × (m ≡ option_map protected n)
in_flagged [] m h = absurd h
in_flagged (n ∷ ns) m (inl h) = (n, inl refl, h)
in_flagged (n ∷ ns) m (inr h) = let k = in_flagged ns m h in (k.0, inr k.1, k.2)

beside_flag : (was : Option Node) (b : LeftBesides) (m : Option Node) → IsBeside (or_also (was ∷ []) (or_protected b)) m → (n : Option Node) × MayLeave (Known was b) n × IsFlagged m n
beside_flag was Anything m h = (m, inr tt, inl refl)
beside_flag was (OneOf ns) m (inl h) = (was, inl refl, inl h)
beside_flag was (OneOf ns) m (inr h) = turn (in_both ns (map (option_map protected) ns) m h)
  where
    turn : IsOneOf ns m ⊎ IsOneOf (map (option_map protected) ns) m → (n : Option Node) × MayLeave (Known was (OneOf ns)) n × IsFlagged m n
    turn (inl k) = (m, inr k, inl refl)
    turn (inr k) = let x = in_flagged ns m k in (x.0, inr x.1, inr x.2)

pub flag_leaves : (s : NodeState) (m : Option Node) → MayLeave (with_flag s) m → (n : Option Node) × MayLeave s n × IsFlagged m n
flag_leaves Owned m h = (m, tt, inl refl)
flag_leaves (Known was b) m (inl h) = (was, inl refl, inr h)
flag_leaves (Known was b) m (inr h) = beside_flag was b m h

pub going_flag : (s : NodeState) (n0 m : Option Node) → (n0 ≡ None) ⊎ ((n0 ≡ reading s) ⊎ (n0 ≡ option_map protected (reading s))) → is_none m ≡ false → MayLeave (going n0 (with_flag s)) m → (n : Option Node) × MayLeave s n × IsFlagged m n
going_flag Owned n0 m a some h = (m, tt, inl refl)
going_flag (Known was b) n0 m (inl a) some h = flag_leaves (Known was b) m (going_some (with_flag (Known was b)) n0 m (inl a) some h)
going_flag (Known was b) n0 m (inr (inr a)) some h = flag_leaves (Known was b) m (going_some (with_flag (Known was b)) n0 m (inr a) some h)
going_flag (Known was b) n0 m (inr (inl a)) some (inl h) = (was, inl refl, inl (h ∙ a))
going_flag (Known was b) n0 m (inr (inl a)) some (inr h) = flag_leaves (Known was b) m (going_some (with_flag (Known was b)) None m (inl refl) some (inr (ungone n0 h)))
  where
    ungone : (n0 : Option Node) → IsBeside (or_was (option_map protected was) (or_gone n0 (or_also (was ∷ []) (or_protected b)))) m → IsBeside (or_was (option_map protected was) (or_also (was ∷ []) (or_protected b))) m
    ungone None h = h
    ungone (Some k) h = less (option_map protected was) (or_also (was ∷ []) (or_protected b)) h
      where
        less : (p : Option Node) (c : LeftBesides) → IsBeside (or_was p (or_also (None ∷ []) c)) m → IsBeside (or_was p c) m
        less None Anything h = tt
        less (Some p) Anything h = tt
        less None (OneOf ns) (inl h) = clash (is_none m) (ap (λ (x : Option Node). is_none x) h) some
        less None (OneOf ns) (inr h) = h
        less (Some p) (OneOf ns) (inl h) = inl h
        less (Some p) (OneOf ns) (inr (inl h)) = clash (is_none m) (ap (λ (x : Option Node). is_none x) h) some
        less (Some p) (OneOf ns) (inr (inr h)) = inr h

-- what stood might be left by a removal
pub may_go : (s : NodeState) (n : Option Node) → MayLeave s n → MayLeave (going None s) n
may_go Owned n h = tt
may_go (Known was b) n h = go was b h
  where
    beside : (was : Option Node) (b : LeftBesides) → IsBeside b n → IsBeside (or_was was b) n
    beside None b h = h
    beside (Some k) Anything h = tt
    beside (Some k) (OneOf ns) h = inr h

    go : (was : Option Node) (b : LeftBesides) → (n ≡ was) ⊎ IsBeside b n → (n ≡ None) ⊎ IsBeside (or_was was b) n
    go None b (inl h) = inl h
    go (Some k) Anything (inl h) = inr tt
    go (Some k) (OneOf ns) (inl h) = inr (inl h)
    go was b (inr h) = inr (beside was b h)

pub may_be_gone : (s : NodeState) → MayLeave (going None s) None
may_be_gone Owned = tt
may_be_gone (Known was b) = inl refl

-- ---- nodes that differ in the flag alone

pub flag_directory : (m n : Option Node) → IsFlagged m n → is_directory m ≡ is_directory n
flag_directory m n (inl h) = ap is_directory h
flag_directory m n (inr h) = ap is_directory h ∙ same n
  where
    same : (n : Option Node) → is_directory (option_map protected n) ≡ is_directory n
    same None = refl
    same (Some Directory) = refl
    same (Some (Regular bytes time read_only)) = refl

pub flag_some : (m n : Option Node) → IsFlagged m n → is_some m ≡ is_some n
flag_some m n (inl h) = ap (λ (x : Option Node). is_some x) h
flag_some m n (inr h) = ap (λ (x : Option Node). is_some x) h ∙ same n
  where
    same : (n : Option Node) → is_some (option_map protected n) ≡ is_some n
    same None = refl
    same (Some x) = refl

pub flag_file : (m n : Option Node) → IsFlagged m n → is_some (file_of m) ≡ is_some (file_of n)
flag_file m n (inl h) = ap (λ x. is_some (file_of x)) h
flag_file m n (inr h) = ap (λ x. is_some (file_of x)) h ∙ same n
  where
    same : (n : Option Node) → is_some (file_of (option_map protected n)) ≡ is_some (file_of n)
    same None = refl
    same (Some Directory) = refl
    same (Some (Regular bytes time read_only)) = refl

pub flag_bytes : (m n : Option Node) → IsFlagged m n → bytes_of m ≡ bytes_of n
flag_bytes m n (inl h) = ap bytes_of h
flag_bytes m n (inr h) = ap bytes_of h ∙ same n
  where
    same : (n : Option Node) → bytes_of (option_map protected n) ≡ bytes_of n
    same None = refl
    same (Some Directory) = refl
    same (Some (Regular bytes time read_only)) = refl

pub flag_tree : (m n : Option Node) → IsFlagged m n → option_map (λ (x : Content). File x.bytes) (file_of m) ≡ option_map (λ (x : Content). File x.bytes) (file_of n)
flag_tree m n (inl h) = ap (λ y. option_map (λ (x : Content). File x.bytes) (file_of y)) h
flag_tree m n (inr h) = ap (λ y. option_map (λ (x : Content). File x.bytes) (file_of y)) h ∙ same n
  where
    same : (n : Option Node) → option_map (λ (x : Content). File x.bytes) (file_of (option_map protected n)) ≡ option_map (λ (x : Content). File x.bytes) (file_of n)
    same None = refl
    same (Some Directory) = refl
    same (Some (Regular bytes time read_only)) = refl
