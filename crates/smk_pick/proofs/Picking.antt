-- One step of starting jobs.
use Rattle.std.proofs.Common.{◌≡◌, ℕ, ◌+◌, ◌<◌, Bool, true, false, List, [], ◌∷◌, ◌++◌, length, get_or, drop, Option, Some, None, sym, ap, ◌∙◌, add-one, append_assoc}
use Rattle.std.specs.List.{slice_get}
use Rattle.std.proofs.Math.Seq.{drop-cons}
use Rattle.smk_base.specs.declared.tree.Amount.{Amount}
use Rattle.smk_pick.specs.declared.room.Ask.{Ask}
use Rattle.smk_pick.specs.declared.room.Room.{Room}
use Rattle.smk_pick.specs.Rooms.{are_within}
use Rattle.smk_pick.specs.Shares.{Holds}
use Rattle.smk_pick.specs.Picks.{Rank, starts, Starts}

module _ (cores : ℕ) (bounds : List Amount) (asks : List Ask) (taken : List Ask) (n : ℕ) (ranks : List Rank) where
  abbrev fits_by : Ask → Bool → List ℕ
  fits_by a b = elim b as (λ _. List ℕ) [ true ↦ n ∷ starts cores bounds asks (taken ++ a ∷ []) ranks | false ↦ starts cores bounds asks taken ranks ]

  abbrev starts_by : Option Ask → List ℕ
  starts_by o = elim o as (λ _. List ℕ) [ None ↦ starts cores bounds asks taken ranks | Some a ↦ fits_by a (are_within cores bounds (taken ++ a ∷ [])) ]

  started : (p : ℕ) (a : Ask) → slice_get asks n ≡ Some a → are_within cores bounds (taken ++ a ∷ []) ≡ true
      → starts cores bounds asks taken ((p, n) ∷ ranks) ≡ n ∷ starts cores bounds asks (taken ++ a ∷ []) ranks
  started p a found within = ap starts_by found ∙ ap (fits_by a) within

  passed : (p : ℕ) (a : Ask) → slice_get asks n ≡ Some a → are_within cores bounds (taken ++ a ∷ []) ≡ false
      → starts cores bounds asks taken ((p, n) ∷ ranks) ≡ starts cores bounds asks taken ranks
  passed p a found within = ap starts_by found ∙ ap (fits_by a) within

  unknown : (p : ℕ) → slice_get asks n ≡ None → starts cores bounds asks taken ((p, n) ∷ ranks) ≡ starts cores bounds asks taken ranks
  unknown p none = ap starts_by none

-- it fits
pub one_started : (cores : ℕ) (bounds : List Amount) (old new : Room) (picked now : List ℕ) (ask : Ask) (n : ℕ) (fits : Bool) → fits ≡ true
    → ((taken : List Ask) → Holds cores bounds old taken → fits ≡ are_within cores bounds (taken ++ ask ∷ []))
    → ((taken : List Ask) → Holds cores bounds old taken → Holds cores bounds new (taken ++ ask ∷ []))
    → now ≡ picked ++ n ∷ [] → Starts cores bounds old new picked now ask n
one_started cores bounds old new picked now ask n fits it_fits within holds pushed = λ asks taken p ranks found held. (
  taken ++ ask ∷ [],
  holds taken held,
  ap (λ l. l ++ starts cores bounds asks (taken ++ ask ∷ []) ranks) pushed ∙ append_assoc picked (n ∷ []) (starts cores bounds asks (taken ++ ask ∷ []) ranks)
      ∙ ap (λ l. picked ++ l) (sym (started cores bounds asks taken n ranks p ask found (sym (within taken held) ∙ it_fits))),
)

-- it doesn't
pub one_passed : (cores : ℕ) (bounds : List Amount) (room : Room) (picked : List ℕ) (ask : Ask) (n : ℕ) (fits : Bool) → fits ≡ false
    → ((taken : List Ask) → Holds cores bounds room taken → fits ≡ are_within cores bounds (taken ++ ask ∷ []))
    → Starts cores bounds room room picked picked ask n
one_passed cores bounds room picked ask n fits it_fails within = λ asks taken p ranks found held.
    (taken, held, ap (λ l. picked ++ l) (sym (passed cores bounds asks taken n ranks p ask found (sym (within taken held) ∙ it_fails))))

-- ## In a row

-- what is left of a run of steps
abbrev pub Left : ℕ → List Amount → List Ask → Room → List ℕ → List Rank → List ℕ → Type 0
Left cores bounds asks room picked ranks whole = (now : List Ask) × Holds cores bounds room now × (picked ++ starts cores bounds asks now ranks ≡ whole)

split : (ranks : List Rank) (i : ℕ) (d : Rank) → i < length ranks → drop i ranks ≡ get_or ranks i d ∷ drop (i + 1) ranks
split ranks i d lt = drop-cons ranks i d lt ∙ ap (λ n. get_or ranks i d ∷ drop n ranks) (sym (add-one i))

pub one_more : (cores : ℕ) (bounds : List Amount) (asks : List Ask) (old new : Room) (picked now : List ℕ) (ask : Ask) (ranks : List Rank) (i : ℕ) (d : Rank) (whole : List ℕ)
    → i < length ranks → slice_get asks (get_or ranks i d).1 ≡ Some ask → Starts cores bounds old new picked now ask (get_or ranks i d).1
    → Left cores bounds asks old picked (drop i ranks) whole → Left cores bounds asks new now (drop (i + 1) ranks) whole
one_more cores bounds asks old new picked now ask ranks i d whole lt found step l =
    let s = step asks l.0 (get_or ranks i d).0 (drop (i + 1) ranks) found l.1 in
    (s.0, s.1, s.2 ∙ ap (λ r. picked ++ starts cores bounds asks l.0 r) (sym (split ranks i d lt)) ∙ l.2)

pub one_unknown : (cores : ℕ) (bounds : List Amount) (asks : List Ask) (room : Room) (picked : List ℕ) (ranks : List Rank) (i : ℕ) (d : Rank) (whole : List ℕ)
    → i < length ranks → slice_get asks (get_or ranks i d).1 ≡ None
    → Left cores bounds asks room picked (drop i ranks) whole → Left cores bounds asks room picked (drop (i + 1) ranks) whole
one_unknown cores bounds asks room picked ranks i d whole lt none l = (
  l.0,
  l.1,
  ap (λ r. picked ++ r) (sym (unknown cores bounds asks l.0 (get_or ranks i d).1 (drop (i + 1) ranks) (get_or ranks i d).0 none))
      ∙ ap (λ r. picked ++ starts cores bounds asks l.0 r) (sym (split ranks i d lt)) ∙ l.2,
)
