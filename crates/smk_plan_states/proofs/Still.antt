-- A job that is Dirty stays so while the job of one of its inputs is, whatever is told of another job that isn't Open, where it reads no member of a directory.
use Rattle.std.proofs.Common.{◌≡◌, ◌∙◌, ◌<◌, ◌==◌, ℕ, zero, suc, length, get_or, arith, Bool, true, false, not, ◌&&◌, ◌||◌, List, [], ◌∷◌, map, refl, sym, ap, Option, Some, None, option_map, is_some, true≢false}
use Rattle.std.specs.Prelude.{slice_index_or, if◌then◌else◌}
use Rattle.std.specs.List.{list_any, slice_get}
use Rattle.std.specs.Option.{option_and_then}
use Rattle.std.proofs.lemmas.Bool.{eqb-true}
use Rattle.smk_trigger.specs.declared.reason.State.{State}
use Rattle.smk_trigger.specs.declared.reason.State.TheVariants.{Open, Dirty, Restore, Clean}
use Rattle.smk_plan.specs.States.{test_some}
use Rattle.smk_plan_states.specs.declared.lines.Gathered.{Gathered}
use Rattle.smk_plan_states.specs.declared.lines.Input.{Input}
use Rattle.smk_plan_states.specs.declared.lines.Line.{Line}
use Rattle.smk_plan_states.specs.declared.lines.Origin.{Origin}
use Rattle.smk_plan_states.specs.declared.ranks.Rank.{Rank}
use Rattle.smk_plan_states.specs.declared.ranks.Rank.TheVariants.{Open as AtOpen, Dirty as AtDirty, Restore as AtRestore, Clean as AtClean}
use Rattle.smk_plan_states.specs.Rows.{has_any}
use Rattle.smk_plan_states.specs.Ranks.{by_rank, is_clean_rank, is_dirty_rank, is_open_rank, rank_at, rank_while_running, unless_clean_rank}
use Rattle.smk_plan_states.specs.Spots.{origin_at, spot_of}
use Rattle.smk_plan_states.specs.Ranking.{dirties_by, gathered_opens, input_opens, is_kept_by, is_upstream, opens_by, reading_opens_by}
use Rattle.smk_plan_states.specs.Stays.{Told, is_member, is_plain, rank_told, spot_told}
use Rattle.smk_laws_plan.proofs.CurrentLists.{none_some, some_inj}

-- ## Lists and flags

pub or_false : (a b : Bool) → (a || b) ≡ false → (a ≡ false) × (b ≡ false)
or_false false b h = (refl, h)
or_false true b h = absurd (true≢false h)

or_none : (a b : Bool) → a ≡ false → b ≡ false → (a || b) ≡ false
or_none a b e f = ap (λ x. x || b) e ∙ f

or_later : (a b : Bool) → b ≡ true → (a || b) ≡ true
or_later true b h = refl
or_later false b h = h

and_both : (a b : Bool) → (a && b) ≡ true → (a ≡ true) × (b ≡ true)
and_both true b h = (refl, h)
and_both false b h = absurd (true≢false (sym h))

turned : (b : Bool) → not b ≡ true → b ≡ false
turned false h = refl
turned true h = absurd (true≢false (sym h))

pub index_alike : {A : Type 0} (xs ys : List A) (n : ℕ) (d : A) → slice_get xs n ≡ slice_get ys n → slice_index_or xs n d ≡ slice_index_or ys n d
index_alike [] [] n d e = refl
index_alike [] (y ∷ ys) zero d e = absurd (none_some None y refl e)
index_alike [] (y ∷ ys) (suc n) d e = index_alike [] ys n d e
index_alike (x ∷ xs) [] zero d e = absurd (none_some None x refl (sym e))
index_alike (x ∷ xs) [] (suc n) d e = index_alike xs [] n d e
index_alike (x ∷ xs) (y ∷ ys) zero d e = some_inj x y e
index_alike (x ∷ xs) (y ∷ ys) (suc n) d e = index_alike xs ys n d e

-- the flag of the line of the number
pub flag_there : {A : Type 0} (test : A → Bool) (xs : List A) (n : ℕ) (x : A) → slice_get xs n ≡ Some x → slice_index_or (map test xs) n false ≡ test x
flag_there test [] n x e = absurd (none_some None x refl e)
flag_there test (y ∷ ys) zero x e = ap test (some_inj y x e)
flag_there test (y ∷ ys) (suc n) x e = flag_there test ys n x e

-- an element passes
pub any_at : {A : Type 0} (test : A → Bool) (xs : List A) (n : ℕ) (x : A) → n < length xs → x ≡ get_or xs n x → test x ≡ true → list_any test xs ≡ true
any_at test [] n x lt e h = absurd (omega (arith, lt))
any_at test (y ∷ ys) zero x lt e h = ap (λ b. b || list_any test ys) (ap test (sym e) ∙ h)
any_at test (y ∷ ys) (suc n) x lt e h = or_later (test y) (list_any test ys) (any_at test ys n x (omega (arith, lt)) e h)

none_gathered : (gathers : List Gathered) (test : Gathered → Bool) → not (has_any gathers) ≡ true → list_any test gathers ≡ false
none_gathered [] test h = refl
none_gathered (g ∷ gathers) test h = absurd (true≢false (sym h))

none_over : (over : Option ℕ) (flag : ℕ → Option Bool) (test : Bool → Bool) → is_some over ≡ false → test_some test (option_and_then flag over) ≡ false
none_over None flag test h = refl
none_over (Some place) flag test h = absurd (true≢false h)

-- ## Ranks

shut_by : (opens dirty kept : Bool) → (if opens then AtOpen else by_rank dirty kept) ≡ AtDirty → opens ≡ false
shut_by false dirty kept h = refl
shut_by true dirty kept h = absurd (true≢false (ap is_open_rank h))

dirty_by : (opens dirty kept : Bool) → opens ≡ false → dirty ≡ true → (if opens then AtOpen else by_rank dirty kept) ≡ AtDirty
dirty_by opens dirty kept e f = ap (λ (b : Bool). if b then AtOpen else by_rank dirty kept) e ∙ ap (λ (b : Bool). by_rank b kept) f

dirty_under : (r : Rank) → unless_clean_rank r ≡ AtDirty → r ≡ AtDirty
dirty_under AtOpen h = h
dirty_under AtDirty h = h
dirty_under AtRestore h = h
dirty_under AtClean h = absurd (true≢false (sym (ap is_dirty_rank h)))

dirty_running : (begun : Option State) (was is : Rank) → rank_while_running begun was ≡ AtDirty → (was ≡ AtDirty → is ≡ AtDirty) → rank_while_running begun is ≡ AtDirty
dirty_running None was is h stays = stays h
dirty_running (Some (Dirty reasons)) was is h stays = refl
dirty_running (Some Open) was is h stays = ap unless_clean_rank (stays (dirty_under was h))
dirty_running (Some Restore) was is h stays = ap unless_clean_rank (stays (dirty_under was h))
dirty_running (Some Clean) was is h stays = ap unless_clean_rank (stays (dirty_under was h))

-- ## A step of a job that isn't Open

module _
    (origins : List Origin) (v u : List Rank) (now before : Told) (job : ℕ) (agree : (m : ℕ) → (m == job) ≡ false → slice_get v m ≡ slice_get u m)
    (shut : test_some is_open_rank (slice_get v job) ≡ false) where
  rank_shut : (number : Option ℕ) → test_some is_open_rank (rank_at u number) ≡ false → test_some is_open_rank (rank_at v number) ≡ false
  rank_shut None h = refl
  rank_shut (Some m) h = go (m == job) refl
    where
      go : (b : Bool) → (m == job) ≡ b → test_some is_open_rank (slice_get v m) ≡ false
      go true e = ap (λ k. test_some is_open_rank (slice_get v k)) (eqb-true m job e) ∙ shut
      go false e = ap (test_some is_open_rank) (agree m e) ∙ h

  origin_shut :
      (origin : Option Origin) (was is : Bool) → test_some (λ (o : Origin). is_some o.over) origin ≡ false →
      test_some (reading_opens_by u) (option_map (spot_of before.outputs was) origin) ≡ false → test_some (reading_opens_by v) (option_map (spot_of now.outputs is) origin) ≡ false
  origin_shut None was is plain h = refl
  origin_shut (Some o) was is plain h =
      let opens = λ (ranks : List Rank). test_some is_open_rank (rank_at ranks o.job) in
      let over = λ (ranks : List Rank) (w : Bool). not (test_some is_clean_rank (rank_at ranks o.job) && w) in
      let flag = λ (outputs : List (List Bool)) (place : ℕ). option_and_then (λ (flags : List Bool). slice_get flags place) (option_and_then (slice_get outputs) o.job) in
      or_none (opens v) (test_some (over v) (option_and_then (flag now.outputs) o.over))
      (rank_shut o.job (or_false (opens u) (test_some (over u) (option_and_then (flag before.outputs) o.over)) h).0)
      (none_over o.over (flag now.outputs) (over v) plain)

  input_shut : (i : Input) (link : Option ℕ) → test_some (λ (o : Origin). is_some o.over) (origin_at origins link) ≡ false →
      test_some (reading_opens_by u) (spot_told origins before link) ≡ false → test_some (reading_opens_by v) (spot_told origins now link) ≡ false
  input_shut i None plain h = refl
  input_shut i (Some n) plain h = origin_shut (slice_get origins n) (slice_index_or before.makers n false) (slice_index_or now.makers n false) plain h

  inputs_shut :
      (inputs : List Input) → list_any (is_member origins) inputs ≡ false → list_any (input_opens u (spot_told origins before)) inputs ≡ false →
      list_any (input_opens v (spot_told origins now)) inputs ≡ false
  inputs_shut [] plain h = refl
  inputs_shut (i ∷ inputs) plain h =
      let flat = or_false (is_member origins i) (list_any (is_member origins) inputs) plain in
      let old = or_false (input_opens u (spot_told origins before) i) (list_any (input_opens u (spot_told origins before)) inputs) h in
      or_none (input_opens v (spot_told origins now) i) (list_any (input_opens v (spot_told origins now)) inputs) (input_shut i i.link flat.0 old.0) (inputs_shut inputs flat.1 old.1)

  line_shut : (line : Line) → is_plain origins line ≡ true → opens_by u (spot_told origins before) line ≡ false → opens_by v (spot_told origins now) line ≡ false
  line_shut line plain h =
      let parts = and_both (not (has_any line.gathers)) (not (list_any (is_member origins) line.inputs)) plain in
      let old = or_false (list_any (input_opens u (spot_told origins before)) line.inputs) (list_any (gathered_opens u (spot_told origins before)) line.gathers) h in
      or_none (list_any (input_opens v (spot_told origins now)) line.inputs) (list_any (gathered_opens v (spot_told origins now)) line.gathers)
      (inputs_shut line.inputs (turned (list_any (is_member origins) line.inputs) parts.1) old.0)
      (none_gathered line.gathers (gathered_opens v (spot_told origins now)) parts.0)

  -- a job that was Dirty is so, where its line is plain and the job of an input of it is Dirty
  pub stays_dirty :
      (line : Line) (n : ℕ) (was used : Bool) → is_plain origins line ≡ true → list_any (is_upstream v origins) line.inputs ≡ true →
      slice_get now.running n ≡ slice_get before.running n → rank_told u origins before line n was ≡ AtDirty → rank_told v origins now line n used ≡ AtDirty
  stays_dirty line n was used plain above run old =
      let own = slice_index_or before.reasons n [] in
      let new = slice_index_or now.reasons n [] in
      let kept = is_kept_by line.outputs (slice_index_or before.outputs n []) && not was in
      let keeps = is_kept_by line.outputs (slice_index_or now.outputs n []) && not used in
      let opened = opens_by u (spot_told origins before) line in
      let opens = opens_by v (spot_told origins now) line in
      ap (λ (b : Option State). rank_while_running b (if opens then AtOpen else by_rank (dirties_by v origins new line) keeps)) (index_alike now.running before.running n None run)
      ∙ dirty_running (slice_index_or before.running n None) (if opened then AtOpen else by_rank (dirties_by u origins own line) kept)
      (if opens then AtOpen else by_rank (dirties_by v origins new line) keeps) old
      (λ e. dirty_by opens (dirties_by v origins new line) keeps (line_shut line plain (shut_by opened (dirties_by u origins own line) kept e))
      (or_later (has_any new) (list_any (is_upstream v origins) line.inputs) above))
