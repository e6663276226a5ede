-- What is kept of ranks stays so through a step of one job.
use Rattle.std.proofs.Common.{◌≡◌, ◌∙◌, ◌<◌, ℕ, length, Bool, true, false, List, [], map, refl, sym, ap, subst, Option, Some, Global}
use Rattle.std.specs.Prelude.{slice_index_or, zip, IfSome, Vec}
use Rattle.std.specs.List.{list_any, slice_get}
use Rattle.smk_world.specs.Trees.{Path}
use Rattle.smk_trigger.specs.declared.reason.Reason.{Reason}
use Rattle.smk_trigger.specs.declared.reason.State.{State}
use Rattle.smk_chain.specs.declared.jobs.Jobs.{Jobs}
use Rattle.smk_plan_states.specs.declared.lines.Line.{Line}
use Rattle.smk_plan_states.specs.declared.lines.Origin.{Origin}
use Rattle.smk_plan_states.specs.declared.ranks.Rank.{Rank}
use Rattle.smk_plan_states.specs.declared.rows.Rows.{Rows}
use Rattle.smk_plan_states.specs.declared.standing.Last.{Last}
use Rattle.smk_plan_states.specs.declared.standing.Ranking.{Ranking}
use Rattle.smk_plan_states.specs.declared.table.Table.{Table}
use Rattle.smk_plan_states.specs.Judged.{Judging, AreStates}
use Rattle.smk_plan_states.specs.Lines.{origin_of}
use Rattle.smk_plan_states.specs.Moment.{IsMoment}
use Rattle.smk_plan_states.specs.Ranks.{rank_of}
use Rattle.smk_plan_states.specs.Ranking.{is_lacking, is_read_by_child, lacking_at}
use Rattle.smk_plan_states.specs.Rows.{AreRowsAt, FitOwn}
use Rattle.smk_plan_states.specs.Served.{AreServed}
use Rattle.smk_plan_states.specs.Standing.{Follows, IsStanding, states_by}
use Rattle.smk_plan_states.specs.Stays.{Told, told_at, told_by, AreEarlier, AreAfter, AreRowsBut, IsApart, IsUntouched, has_number, reads_of, states_told}
use Rattle.smk_plan_states.specs.Tables.{IsTableAt, IsTableOf}
use Rattle.smk_laws_plan.proofs.CurrentLists.{clash_of}
use Rattle.smk_plan_states.proofs.Lacking.{lacking_after, none_lacking}
use Rattle.smk_plan_states.proofs.Solved.{solved}
use Rattle.smk_plan_states.proofs.Steps.{got_below, ranks_are, ranks_stay, served_earlier, states_are}
use Rattle.smk_plan_states.proofs.UsedBy.{used_are}

pub standing_stays :
    (lines : List Line) (origins : List Origin) (before now : Told) (r t : Ranking) (doubts : List Bool) (job : ℕ) (readers watchers : List ℕ) →
    IsStanding lines origins before r → AreRowsBut origins job readers before now →
    ((n : ℕ) (line : Line) → slice_get lines n ≡ Some line → reads_of origins job line ≡ true → has_number n watchers ≡ true) →
    length t.used.items ≡ length lines → ((n : ℕ) → n < length lines → slice_index_or t.used.items n false ≡ is_read_by_child lines origins now.running n) →
    ((n : ℕ) → n < length lines → slice_index_or doubts n false ≡ false → IsApart job readers watchers r.used.items t.used.items n) →
    AreAfter lines origins now t.used.items doubts r.plain.items job r.first.items t.first.items → t.plain.items ≡ r.plain.items →
    list_any is_lacking (zip t.first.items now.outputs) ≡ false → t.last.items ≡ t.first.items → IsStanding lines origins now t
standing_stays lines origins before now r t doubts job readers watchers old rows watched flags reading apart after flat lacks last =
    record {
      each_rank = after.each ∙ old.each_rank;
      each_last = ap length last ∙ after.each ∙ old.each_rank;
      each_used = flags;
      reading = reading;
      ranks = ranks_stay lines origins before now r.used.items t.used.items doubts r.plain.items r.first.items t.first.items job readers old.plain old.ranks rows after.others after.told others;
      whole = λ e. lacks;
      last = λ e. last;
      plain = flat ∙ old.plain;
    }
  where
    unread : (n : ℕ) (line : Line) → slice_get lines n ≡ Some line → has_number n watchers ≡ false → reads_of origins job line ≡ false
    unread n line e none = go (reads_of origins job line) refl
      where
        go : (b : Bool) → reads_of origins job line ≡ b → b ≡ false
        go false f = refl
        go true f = absurd (clash_of (has_number n watchers) (watched n line e f) none)

    others : (n : ℕ) (line : Line) → slice_get lines n ≡ Some line → slice_index_or doubts n false ≡ false → IsUntouched origins job readers r.used.items t.used.items n line
    others n line e d =
        let x = apart n (got_below lines n line e) d in
        record { other = x.other; no_reader = x.no_reader; unread = unread n line e x.no_watcher; reading = x.reading }

pub stands_after :
    (lines : List Line) (origins : List Origin) (now : Told) (watchers : List ℕ) (job : ℕ) (readers : List ℕ) (was used told doubts given plain : List Bool) (ranks gone : List Rank)
    (ranking t : Ranking) →
    was ≡ ranking.used.items → used ≡ t.used.items → told ≡ t.used.items → given ≡ doubts → plain ≡ ranking.plain.items → t.plain.items ≡ ranking.plain.items → ranks ≡ ranking.first.items → t.first.items ≡ gone → t.last.items ≡ t.first.items →
    ((n : ℕ) → n < length lines → slice_index_or doubts n false ≡ false → IsApart job readers watchers was used n) → AreAfter lines origins now told given plain job ranks gone → lacking_at gone now.outputs job ≡ false → ranking.lacking ≡ false →
    (before : Told) → IsStanding lines origins before ranking → AreRowsBut origins job readers before now →
    ((n : ℕ) (line : Line) → slice_get lines n ≡ Some line → reads_of origins job line ≡ true → has_number n watchers ≡ true) →
    length t.used.items ≡ length lines → ((n : ℕ) → n < length lines → slice_index_or t.used.items n false ≡ is_read_by_child lines origins now.running n) → IsStanding lines origins now t
stands_after lines origins now watchers job readers was used told doubts given plain ranks gone ranking t was_is used_is told_is given_is plain_is flat ranks_are first_is last apart went own whole before old rows watched
    flags reading =
    standing_stays lines origins before now ranking t doubts job readers watchers old rows watched flags reading
    (λ n lt d.
    subst (λ us. IsApart job readers watchers ranking.used.items us n) used_is (subst (λ ws. IsApart job readers watchers ws used n) was_is (apart n lt d)))
    (subst (λ (first : List Rank). AreAfter lines origins now t.used.items doubts ranking.plain.items job ranking.first.items first) (sym first_is)
    (subst (λ (rs : List Rank). AreAfter lines origins now t.used.items doubts ranking.plain.items job rs gone) ranks_are
    (subst (λ ps. AreAfter lines origins now t.used.items doubts ps job ranks gone) plain_is
    (subst (λ ds. AreAfter lines origins now t.used.items ds plain job ranks gone) given_is
    (subst (λ us. AreAfter lines origins now us given plain job ranks gone) told_is went)))))
    flat
    (ap (λ (first : List Rank). list_any is_lacking (zip first now.outputs)) first_is
    ∙ lacking_after ranking.first.items gone before.outputs now.outputs job (λ m other. went.others m other ∙ ap (λ (rs : List Rank). slice_get rs m) ranks_are)
    rows.outputs (old.whole whole) own)
    last

-- ## By the table

module _
    (at : Judging) (J : Jobs) (table : Table) (lines : List Line) (origins : List Origin) (rows : Rows) (used : List Bool) (told : IsTableAt at J table) (right : AreRowsAt at J rows)
    (lines_are : lines ≡ table.lines) (origins_are : origins ≡ table.origins) (each : length used ≡ length lines)
    (reads : (n : ℕ) → n < length lines → slice_index_or used n false ≡ is_read_by_child lines origins rows.running.now n) where
  -- states of the table make a moment with these rows
  pub moment : (ss : List State) → AreStates at J ss → IsMoment at J ss lines origins rows used
  moment ss solves =
      let ls = lines_are ∙ told.told.lines in
      let os = origins_are ∙ told.told.origins in
      record {
        served = told.served;
        solved = solves;
        each_line = ls;
        each_origin = os;
        told = right;
        read = used_are at J at.settings.targets told.served lines origins rows.running.now used ls os right.running each reads;
      }

  -- where none that is Clean lacks an output the ranks that are kept are those of the states
  pub kept_ranks :
      (r : Ranking) → r.used.items ≡ used → IsStanding lines origins (told_at at J rows) r → r.lacking ≡ false → (ss : List State) → AreStates at J ss → r.last.items ≡ map rank_of ss
  kept_ranks r same stands whole ss solves =
      let h : IsMoment at J ss lines origins rows r.used.items = subst (λ us. IsMoment at J ss lines origins rows us) (sym same) (moment ss solves) in
      stands.last whole
      ∙ none_lacking at J ss lines origins rows r.used.items h r.first.items (stands.whole whole)
      (ranks_are at J ss lines origins rows r.used.items h r.first.items stands.each_rank stands.ranks)

-- the states by ranks that are those of the states of the table are these
pub table_states :
    (at : Judging) (J : Jobs) (table : Table) (lines : List Line) (origins : List Origin) (rows : Rows) (used : List Bool) (r : Ranking) → IsTableAt at J table → AreRowsAt at J rows →
    lines ≡ table.lines → origins ≡ table.origins → length used ≡ length lines →
    ((n : ℕ) → n < length lines → slice_index_or used n false ≡ is_read_by_child lines origins rows.running.now n) →
    ((ss : List State) → AreStates at J ss → r.last.items ≡ map rank_of ss) → AreStates at J (states_by table (told_at at J rows) r)
table_states at J table lines origins rows used r told right ls os each reads ranked =
    let s = solved at.image J at.settings.targets told.served at.settings at.progress in
    let h : IsMoment at J s.0 lines origins rows used = moment at J table lines origins rows used told right ls os each reads s.0 s.1 in
    subst (λ (xs : List State). AreStates at J xs)
    (sym
    ((λ i. states_told (sym ls i) (sym os i) (told_at at J rows) (ranked s.0 s.1 i))
    ∙ states_are at J s.0 lines origins rows used h))
    s.1

pub earlier_lines : (J : Jobs) (asked : List Path) (table : Table) → IsTableOf J asked table → AreServed J asked → AreEarlier table.lines table.origins
earlier_lines J asked table told served =
    subst (λ (os : List Origin). AreEarlier table.lines os) (sym told.origins)
    (subst (λ (ls : List Line). AreEarlier ls (map (origin_of J.jobs) J.makers)) (sym told.lines) (served_earlier J asked served))

pub anew_standing :
    (J : Jobs) (asked : List Path) (table : Table) (lines : List Line) (origins : List Origin) (now : Told) (used : List Bool) (r : Ranking) → IsTableOf J asked table → AreServed J asked →
    lines ≡ table.lines → origins ≡ table.origins → length used ≡ length lines →
    ((n : ℕ) → n < length lines → slice_index_or used n false ≡ is_read_by_child lines origins now.running n) →
    (AreEarlier lines origins → length used ≡ length lines → ((n : ℕ) → n < length lines → slice_index_or used n false ≡ is_read_by_child lines origins now.running n) → IsStanding lines origins now r) →
    IsStanding table.lines table.origins now r
anew_standing J asked table lines origins now used r told served ls os each reads stands =
    subst (λ (xs : List Origin). IsStanding table.lines xs now r) os
    (subst (λ (xs : List Line). IsStanding xs origins now r) ls
    (stands
    (subst (λ (xs : List Origin). AreEarlier lines xs) (sym os) (subst (λ (xs : List Line). AreEarlier xs table.origins) (sym ls) (earlier_lines J asked table told served)))
    each reads))

abbrev pub IsLedTo : List Line → List Origin → Told → Vec Bool Global → List ℕ → Last → Ranking → Type 0
IsLedTo lines origins now used watchers last r =
    (before : Told) → IsStanding lines origins before last.ranking.now → AreRowsBut origins last.job last.readers.now before now →
    ((n : ℕ) (line : Line) → slice_get lines n ≡ Some line → reads_of origins last.job line ≡ true → has_number n watchers ≡ true) →
    length used.items ≡ length lines → ((n : ℕ) → n < length lines → slice_index_or used.items n false ≡ is_read_by_child lines origins now.running n) →
    IsStanding lines origins now r

-- what follows stands by the table
pub follow_standing :
    (J : Jobs) (asked : List Path) (table : Table) (lines : List Line) (origins : List Origin) (now : Told) (used : Vec Bool Global) (last : Last) (all : List (List ℕ)) (watchers : List ℕ)
    (t : Ranking) →
    IsTableOf J asked table → lines ≡ table.lines → origins ≡ table.origins → all ≡ table.watchers.items → watchers ≡ slice_index_or all last.job [] → last.job < length lines → length used.items ≡ length lines →
    ((n : ℕ) → n < length lines → slice_index_or used.items n false ≡ is_read_by_child lines origins now.running n) → IsLedTo lines origins now used watchers last t →
    Follows table.lines table.origins (Some last) now → IsStanding lines origins now t
follow_standing J asked table lines origins now used last all watchers t told ls os all_is row within each reads stands (before, stood, but) =
    stands before
    (subst (λ (xs : List Line). IsStanding xs origins before last.ranking.now) (sym ls)
    (subst (λ (xs : List Origin). IsStanding table.lines xs before last.ranking.now) (sym os) stood))
    (subst (λ (xs : List Origin). AreRowsBut xs last.job last.readers.now before now) (sym os) but)
    (λ n line e r.
    ap (has_number n) (row ∙ ap (λ (xs : List (List ℕ)). slice_index_or xs last.job []) all_is)
    ∙ told.watched.each n line last.job (subst (λ (xs : List Line). last.job < length xs) ls within) (ap (λ (xs : List Line). slice_get xs n) (sym ls) ∙ e)
    (ap (λ (xs : List Origin). reads_of xs last.job line) (sym os) ∙ r))
    each reads

-- ## What an answer gives, where there is one

abbrev pub IsKeptBy : List Line → Vec Bool Global → Last → Ranking → Type 0
IsKeptBy lines used last now = (now.used ≡ used) × (now.lacking ≡ false) × (length now.last.items ≡ length lines) × (last.job < length lines)

pub some_kept :
    (found : Option Ranking) (now : Ranking) (lines : List Line) (used : Vec Bool Global) (last : Last) → found ≡ Some now → IfSome found (IsKeptBy lines used last) → IsKeptBy lines used last now
some_kept found now lines used last is kept = subst (λ (o : Option Ranking). IfSome o (IsKeptBy lines used last)) is kept

abbrev pub IsLedBy : List Line → List Origin → Rows → Vec Bool Global → List ℕ → Last → Ranking → Type 0
IsLedBy lines origins rows used watchers last r =
    (reasons : List (List Reason)) (forced : List Bool) → FitOwn rows.own.now reasons → IsLedTo lines origins (told_by rows reasons forced) used watchers last r

pub some_stands :
    (found : Option Ranking) (now : Ranking) (lines : List Line) (origins : List Origin) (rows : Rows) (used : Vec Bool Global) (watchers : List ℕ) (last : Last) → found ≡ Some now →
    IfSome found (IsLedBy lines origins rows used watchers last) → IsLedBy lines origins rows used watchers last now
some_stands found now lines origins rows used watchers last is stands = subst (λ (o : Option Ranking). IfSome o (IsLedBy lines origins rows used watchers last)) is stands
