-- What a room holds as jobs come and go.
use Rattle.std.proofs.Common.{◌≡◌, ℕ, ◌+◌, ◌-◌, ◌≤◌, Bool, true, ◌&&◌, List, [], ◌∷◌, ◌++◌, map, refl, sym, ap, ◌∙◌, arith}
use Rattle.std.specs.Prelude.{sum_by, nat_le}
use Rattle.std.specs.List.{list_all}
use Rattle.std.proofs.lemmas.Bool.{le-leb, and_from}
use Rattle.std.proofs.lemmas.List.Sums.{sum_by-append}
use Rattle.std.proofs.Math.Nat.{zero-add}
use Rattle.smk_base.specs.declared.tree.Amount.{Amount}
use Rattle.smk_pick.specs.declared.room.Ask.{Ask}
use Rattle.smk_pick.specs.declared.room.Room.{Room}
use Rattle.smk_pick.specs.Rooms.{amount, threads_in, are_within}
use Rattle.smk_pick.specs.Shares.{has_room, has_used, raised, lowered, share_of, Holds, fits_in, is_used_in}

less_middle : (a x b : ℕ) → (a + (x + b)) - x ≡ a + b
less_middle a x b = omega arith

middle_below : (a x b : ℕ) → x ≤ a + (x + b)
middle_below a x b = omega arith

-- ## Sums

sum_first : (f : Ask → ℕ) (ask : Ask) (after : List Ask) → sum_by f (ask ∷ after) ≡ f ask + sum_by f after
sum_first f ask after = sum_by-append f (ask ∷ []) after ∙ ap (λ (n : ℕ). n + sum_by f after) (zero-add (f ask))

sum_middle : (f : Ask → ℕ) (before : List Ask) (ask : Ask) (after : List Ask) → sum_by f (before ++ ask ∷ after) ≡ sum_by f before + (f ask + sum_by f after)
sum_middle f before ask after = sum_by-append f before (ask ∷ after) ∙ ap (λ (n : ℕ). sum_by f before + n) (sum_first f ask after)

sum_last : (f : Ask → ℕ) (asks : List Ask) (ask : Ask) → sum_by f asks + f ask ≡ sum_by f (asks ++ ask ∷ [])
sum_last f asks ask = sym (sum_by-append f asks (ask ∷ []) ∙ ap (λ (n : ℕ). sum_by f asks + n) (zero-add (f ask)))

sum_without : (f : Ask → ℕ) (before : List Ask) (ask : Ask) (after : List Ask) → sum_by f (before ++ ask ∷ after) - f ask ≡ sum_by f (before ++ after)
sum_without f before ask after =
    ap (λ (n : ℕ). n - f ask) (sum_middle f before ask after) ∙ less_middle (sum_by f before) (f ask) (sum_by f after) ∙ sym (sum_by-append f before after)

sum_has : (f : Ask → ℕ) (before : List Ask) (ask : Ask) (after : List Ask) → nat_le (f ask) (sum_by f (before ++ ask ∷ after)) ≡ true
sum_has f before ask after =
    ap (nat_le (f ask)) (sum_middle f before ask after) ∙ le-leb (f ask) (sum_by f before + (f ask + sum_by f after)) (middle_below (sum_by f before) (f ask) (sum_by f after))

-- ## Shares

abbrev of_name : Amount → Ask → ℕ
of_name b a = amount a.amounts b.name

one_raised : (asks : List Ask) (ask : Ask) (b : Amount) → raised ask.amounts (share_of asks b) ≡ share_of (asks ++ ask ∷ []) b
one_raised asks ask b = ap (λ (n : ℕ). record (share_of asks b) { used = n }) (sum_last (of_name b) asks ask)

all_raised : (asks : List Ask) (ask : Ask) (bounds : List Amount) → map (raised ask.amounts) (map (share_of asks) bounds) ≡ map (share_of (asks ++ ask ∷ [])) bounds
all_raised asks ask [] = refl
all_raised asks ask (b ∷ bounds) = λ i. one_raised asks ask b i ∷ all_raised asks ask bounds i

one_lowered : (before : List Ask) (ask : Ask) (after : List Ask) (b : Amount) → lowered ask.amounts (share_of (before ++ ask ∷ after) b) ≡ share_of (before ++ after) b
one_lowered before ask after b = ap (λ (n : ℕ). record (share_of before b) { used = n }) (sum_without (of_name b) before ask after)

all_lowered : (before : List Ask) (ask : Ask) (after : List Ask) (bounds : List Amount)
    → map (lowered ask.amounts) (map (share_of (before ++ ask ∷ after)) bounds) ≡ map (share_of (before ++ after)) bounds
all_lowered before ask after [] = refl
all_lowered before ask after (b ∷ bounds) = λ i. one_lowered before ask after b i ∷ all_lowered before ask after bounds i

room_is : (asks : List Ask) (ask : Ask) (bounds : List Amount)
    → list_all (has_room ask.amounts) (map (share_of asks) bounds) ≡ list_all (λ (b : Amount). nat_le (sum_by (of_name b) (asks ++ ask ∷ [])) b.count) bounds
room_is asks ask [] = refl
room_is asks ask (b ∷ bounds) =
    λ i. nat_le (sum_last (of_name b) asks ask i) b.count && room_is asks ask bounds i

used_is : (before : List Ask) (ask : Ask) (after : List Ask) (bounds : List Amount) → list_all (has_used ask.amounts) (map (share_of (before ++ ask ∷ after)) bounds) ≡ true
used_is before ask after [] = refl
used_is before ask after (b ∷ bounds) =
    and_from (nat_le (of_name b ask) (sum_by (of_name b) (before ++ ask ∷ after))) (list_all (has_used ask.amounts) (map (share_of (before ++ ask ∷ after)) bounds))
    (sum_has (of_name b) before ask after) (used_is before ask after bounds)

-- ## The room

-- a job fits where all are within the bounds with it
pub fits_is : (cores : ℕ) (bounds : List Amount) (room : Room) (asks : List Ask) (ask : Ask) → Holds cores bounds room asks → fits_in room ask ≡ are_within cores bounds (asks ++ ask ∷ [])
fits_is cores bounds room asks ask h =
    ap (λ (c : ℕ). nat_le (room.threads + threads_in c ask.threads) c && list_all (has_room ask.amounts) room.shares.items) h.cores_are
    ∙ ap (λ (n : ℕ). nat_le (n + threads_in cores ask.threads) cores && list_all (has_room ask.amounts) room.shares.items) h.threads_are
    ∙ ap (λ (n : ℕ). nat_le n cores && list_all (has_room ask.amounts) room.shares.items) (sum_last (λ (a : Ask). threads_in cores a.threads) asks ask)
    ∙ ap (λ (b : Bool). nat_le (sum_by (λ (a : Ask). threads_in cores a.threads) (asks ++ ask ∷ [])) cores && b) (ap (list_all (has_room ask.amounts)) h.shares_are ∙ room_is asks ask bounds)

pub taken_holds : (cores : ℕ) (bounds : List Amount) (room now : Room) (asks : List Ask) (ask : Ask) → Holds cores bounds room asks
    → now.cores ≡ room.cores → now.threads ≡ room.threads + threads_in room.cores ask.threads → now.shares.items ≡ map (raised ask.amounts) room.shares.items
    → Holds cores bounds now (asks ++ ask ∷ [])
taken_holds cores bounds room now asks ask h c t s = record {
  cores_are = c ∙ h.cores_are;
  threads_are = t ∙ ap (λ (k : ℕ). room.threads + threads_in k ask.threads) h.cores_are ∙ ap (λ (n : ℕ). n + threads_in cores ask.threads) h.threads_are ∙ sum_last (λ (a : Ask). threads_in cores a.threads) asks ask;
  shares_are = s ∙ ap (map (raised ask.amounts)) h.shares_are ∙ all_raised asks ask bounds;
}

pub given_holds : (cores : ℕ) (bounds : List Amount) (room now : Room) (before : List Ask) (ask : Ask) (after : List Ask) → Holds cores bounds room (before ++ ask ∷ after)
    → now.cores ≡ room.cores → now.threads ≡ room.threads - threads_in room.cores ask.threads → now.shares.items ≡ map (lowered ask.amounts) room.shares.items
    → Holds cores bounds now (before ++ after)
given_holds cores bounds room now before ask after h c t s = record {
  cores_are = c ∙ h.cores_are;
  threads_are =
      t ∙ ap (λ (k : ℕ). room.threads - threads_in k ask.threads) h.cores_are ∙ ap (λ (n : ℕ). n - threads_in cores ask.threads) h.threads_are
      ∙ sum_without (λ (a : Ask). threads_in cores a.threads) before ask after;
  shares_are = s ∙ ap (map (lowered ask.amounts)) h.shares_are ∙ all_lowered before ask after bounds;
}

-- what a job that is in asks for is in use
pub held_in_use : (cores : ℕ) (bounds : List Amount) (room : Room) (before : List Ask) (ask : Ask) (after : List Ask) → Holds cores bounds room (before ++ ask ∷ after) → is_used_in room ask ≡ true
held_in_use cores bounds room before ask after h =
    and_from (nat_le (threads_in room.cores ask.threads) room.threads) (list_all (has_used ask.amounts) room.shares.items)
    (ap (λ (k : ℕ). nat_le (threads_in k ask.threads) room.threads) h.cores_are ∙ ap (nat_le (threads_in cores ask.threads)) h.threads_are
    ∙ sum_has (λ (a : Ask). threads_in cores a.threads) before ask after)
    (ap (list_all (has_used ask.amounts)) h.shares_are ∙ used_is before ask after bounds)
