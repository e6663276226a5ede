-- The ranks of the first pass are told by themselves: so they stay through a step of one job, where each that is doubted comes out as it was.
use Rattle.std.proofs.Common.{◌≡◌, ◌∙◌, ◌<◌, ◌≤◌, ◌+◌, ◌==◌, ℕ, zero, suc, length, take, drop, get_or, add-one, arith, Bool, true, false, not, ◌&&◌, ◌||◌, List, [], ◌∷◌, ◌++◌, map, find, refl, sym, ap, subst, inl, inr, Option, Some, None, option_map, is_some, true≢false}
use Rattle.std.specs.Prelude.{nat_eq, slice_index_or, if◌then◌else◌}
use Rattle.std.specs.List.{list_any, slice_get}
use Rattle.std.specs.Option.{option_and_then}
use Rattle.smk_world.specs.Trees.{Path, Each}
use Rattle.smk_world.specs.World.{in_paths}
use Rattle.smk_flow.specs.declared.job.Job.{Job}
use Rattle.smk_chain.specs.declared.jobs.Jobs.{Jobs}
use Rattle.smk_chain.specs.declared.jobs.Maker.{Maker}
use Rattle.smk_trigger.specs.declared.reason.Reason.{Reason}
use Rattle.smk_trigger.specs.declared.reason.State.{State}
use Rattle.smk_trigger.specs.declared.reason.Reason.TheVariants.{Upstream, Forced}
use Rattle.smk_trigger.specs.Reasons.{when}
use Rattle.smk_plan.specs.States.{gathers_from, job_path, state_of, test_some}
use Rattle.smk_plan_states.specs.declared.lines.Gathered.{Gathered}
use Rattle.smk_plan_states.specs.declared.lines.Input.{Input}
use Rattle.smk_plan_states.specs.declared.lines.Line.{Line}
use Rattle.smk_plan_states.specs.declared.lines.Origin.{Origin}
use Rattle.smk_plan_states.specs.declared.ranks.Rank.{Rank}
use Rattle.smk_plan_states.specs.declared.ranks.Rank.TheVariants.{Open as AtOpen, Dirty as AtDirty}
use Rattle.smk_plan_states.specs.declared.rows.Rows.{Rows}
use Rattle.smk_plan_states.specs.declared.spots.Spot.{Spot}
use Rattle.smk_plan_states.specs.Served.{AreServed, IsBelow, ReadEarlier}
use Rattle.smk_plan_states.specs.Judged.{Judging, with_states}
use Rattle.smk_plan_states.specs.First.{first_states}
use Rattle.smk_plan_states.specs.Lines.{tells_of, link_to, origin_of, inputs_from, gathered_of, line_of}
use Rattle.smk_plan_states.specs.Moment.{IsMoment}
use Rattle.smk_plan_states.specs.Rows.{has_any, forced_at, reasons_at}
use Rattle.smk_plan_states.specs.Ranks.{rank_of, rank_at, is_open_rank, is_dirty_rank, is_clean_rank, by_rank, rank_while_running, state_by}
use Rattle.smk_plan_states.specs.Spots.{maker_at, spot_of}
use Rattle.smk_plan_states.specs.Ranking.{reading_opens_by, gathering_opens_by, input_opens, gathered_opens, is_upstream, is_kept_by, first_rank, is_link, upstream_paths}
use Rattle.smk_plan_states.specs.Stays.{Told, told_at, spot_told, rank_told, OfSome, OfLine, IsByEarlier, AreEarlier, AreFirst, AreRowsBut, IsStillDirty, IsToldBy, IsUntouched, alone_in, but_last, has_number, is_made_by, is_plain, reads_of, state_told, states_from, states_told}
use Rattle.std.proofs.lemmas.List.{map-append, length-map, take_all}
use Rattle.std.proofs.lemmas.Option.{slice_get-map, get_or_from_slice_get}
use Rattle.std.proofs.lemmas.Bool.{eqb-true, eqb-false, eq-eqb}
use Rattle.std.proofs.Math.Bool.{or-true}
use Rattle.smk_laws_plan.proofs.CurrentLists.{none_some, some_inj}
use Rattle.smk_plan_states.proofs.Told.{IsReadOf, read_there}
use Rattle.smk_plan_states.proofs.Numbers.{maker_is}
use Rattle.smk_plan_states.proofs.ByRank.{early, size, here, line_there, used_there, reasons_there, forced_there, running_there, first_is, first_step, first_done}
use Rattle.smk_plan_states.proofs.FirstPass.{own_of}
use Rattle.smk_plan_states.proofs.Building.{state_here}
use Rattle.smk_plan_states.proofs.Flags.{split_at}
use Rattle.smk_plan_states.proofs.Still.{or_false, index_alike, flag_there, stays_dirty}

-- ## Lists

pub got_below : {A : Type 0} (xs : List A) (n : ℕ) (x : A) → slice_get xs n ≡ Some x → n < length xs
got_below [] n x e = absurd (none_some None x refl e)
got_below (y ∷ xs) zero x e = omega arith
got_below (y ∷ xs) (suc n) x e = let lt = got_below xs n x e in omega (arith, lt)

any_alike : {A : Type 0} (P : A → Type 0) (f g : A → Bool) → ((x : A) → P x → f x ≡ g x) → (xs : List A) → Each P xs → list_any f xs ≡ list_any g xs
any_alike P f g h [] all = refl
any_alike P f g h (x ∷ xs) (one, all) = let a = h x one in let b = any_alike P f g h xs all in λ i. a i || b i

-- ## What a rank asks for

module _
    (v u : List Rank) (origins : List Origin) (now before : Told) (ok : ℕ → Type 0)
    (agree : (m : ℕ) → ok m → slice_get v m ≡ slice_get u m)
    (flags : (m : ℕ) → ok m → slice_get now.outputs m ≡ slice_get before.outputs m)
    (wholes : (n : ℕ) (o : Origin) → slice_get origins n ≡ Some o → OfSome ok o.job → slice_index_or now.makers n false ≡ slice_index_or before.makers n false) where
  rank_alike : (number : Option ℕ) → OfSome ok number → rank_at v number ≡ rank_at u number
  rank_alike None h = refl
  rank_alike (Some m) h = agree m h

  row_alike : (number : Option ℕ) → OfSome ok number → option_and_then (slice_get now.outputs) number ≡ option_and_then (slice_get before.outputs) number
  row_alike None h = refl
  row_alike (Some m) h = flags m h

  spot_alike : (link : Option ℕ) → OfSome ok (maker_at origins link) → spot_told origins now link ≡ spot_told origins before link
  spot_alike None h = refl
  spot_alike (Some n) h = go (slice_get origins n) refl
    where
      go :
          (o : Option Origin) → slice_get origins n ≡ o →
          option_map (spot_of now.outputs (slice_index_or now.makers n false)) o
          ≡ option_map (spot_of before.outputs (slice_index_or before.makers n false)) o
      go None e = refl
      go (Some o) e =
          let it : OfSome ok o.job = subst (λ x. OfSome ok (option_and_then (λ (o : Origin). o.job) x)) e h in
          let whole = wholes n o e it in
          let row = row_alike o.job it in
          λ i. Some (record { job = o.job; whole = whole i; over = option_and_then (λ place. option_and_then (λ (fs : List Bool). slice_get fs place) (row i)) o.over })

  spot_job : (rows : Told) (link : Option ℕ) (s : Spot) → spot_told origins rows link ≡ Some s → maker_at origins link ≡ s.job
  spot_job rows None s e = absurd (none_some None s refl e)
  spot_job rows (Some n) s e = go (slice_get origins n) e
    where
      go : (o : Option Origin) → option_map (spot_of rows.outputs (slice_index_or rows.makers n false)) o ≡ Some s → option_and_then (λ (o : Origin). o.job) o ≡ s.job
      go None f = absurd (none_some None s refl f)
      go (Some o) f = ap (λ (x : Spot). x.job) (some_inj (spot_of rows.outputs (slice_index_or rows.makers n false) o) s f)

  input_alike : (i : Input) → OfSome ok (maker_at origins i.link) → input_opens v (spot_told origins now) i ≡ input_opens u (spot_told origins before) i
  input_alike input h = ap (test_some (reading_opens_by v)) (spot_alike input.link h) ∙ go (spot_told origins before input.link) refl
    where
      go : (o : Option Spot) → spot_told origins before input.link ≡ o → test_some (reading_opens_by v) o ≡ test_some (reading_opens_by u) o
      go None e = refl
      go (Some s) e =
          ap (λ (r : Option Rank). test_some is_open_rank r || test_some (λ w. not (test_some is_clean_rank r && w)) s.over)
          (rank_alike s.job (subst (OfSome ok) (spot_job before input.link s e) h))

  gathered_alike : (g : Gathered) → OfSome ok (maker_at origins g.link) → gathered_opens v (spot_told origins now) g ≡ gathered_opens u (spot_told origins before) g
  gathered_alike g h = ap (test_some (gathering_opens_by v g.listed)) (spot_alike g.link h) ∙ go (spot_told origins before g.link) refl
    where
      go : (o : Option Spot) → spot_told origins before g.link ≡ o → test_some (gathering_opens_by v g.listed) o ≡ test_some (gathering_opens_by u g.listed) o
      go None e = refl
      go (Some s) e =
          ap
          (λ (r : Option Rank). test_some (λ w. not (test_some is_clean_rank r && w)) s.over || (is_some r && (not (test_some is_clean_rank r && s.whole) || not g.listed)))
          (rank_alike s.job (subst (OfSome ok) (spot_job before g.link s e) h))

  upstream_alike : (i : Input) → OfSome ok (maker_at origins i.link) → is_upstream v origins i ≡ is_upstream u origins i
  upstream_alike input h = ap (λ (r : Option Rank). not input.again && test_some is_dirty_rank r) (rank_alike (maker_at origins input.link) h)

  -- the rank of the first pass is the same, where what is told of the job itself is
  pub first_alike :
      (line : Line) (number : ℕ) (used was : Bool) → OfLine ok origins line → used ≡ was →
      slice_get now.outputs number ≡ slice_get before.outputs number →
      slice_get now.reasons number ≡ slice_get before.reasons number →
      slice_get now.running number ≡ slice_get before.running number →
      rank_told v origins now line number used ≡ rank_told u origins before line number was
  first_alike line number used was of same outs own begun =
      let Ok = λ (i : Input). OfSome ok (maker_at origins i.link) in
      let inputs = any_alike Ok (input_opens v (spot_told origins now)) (input_opens u (spot_told origins before)) input_alike line.inputs of.0 in
      let gathers =
      any_alike (λ (g : Gathered). OfSome ok (maker_at origins g.link)) (gathered_opens v (spot_told origins now)) (gathered_opens u (spot_told origins before)) gathered_alike line.gathers of.1 in
      let ups = any_alike Ok (is_upstream v origins) (is_upstream u origins) upstream_alike line.inputs of.0 in
      let rows = index_alike now.outputs before.outputs number [] outs in
      let reasons = index_alike now.reasons before.reasons number [] own in
      let run = index_alike now.running before.running number None begun in
      λ i.
      rank_while_running (run i)
      (if inputs i || gathers i then AtOpen else by_rank (has_any (reasons i) || ups i) (is_kept_by line.outputs (rows i) && not (same i)))

-- ## The ranks of the first pass are told by themselves

there : {A : Type 0} (xs : List A) (y : A) (ys : List A) (n : ℕ) → length xs ≡ n → slice_get (xs ++ y ∷ ys) n ≡ Some y
there [] y ys zero e = refl
there [] y ys (suc n) e = absurd (omega arith)
there (x ∷ xs) y ys zero e = absurd (omega arith)
there (x ∷ xs) y ys (suc n) e = there xs y ys n (omega arith)

front_alike : {A : Type 0} (xs ys : List A) (m : ℕ) → m < length xs → slice_get (xs ++ ys) m ≡ slice_get xs m
front_alike [] ys m h = absurd (omega arith)
front_alike (x ∷ xs) ys zero h = refl
front_alike (x ∷ xs) ys (suc m) h = front_alike xs ys m (omega arith)

each_front : {A : Type 0} (P : A → Type 0) (xs ys : List A) → Each P (xs ++ ys) → Each P xs
each_front P [] ys all = tt
each_front P (x ∷ xs) ys (one, all) = (one, each_front P xs ys all)

each_back : {A : Type 0} (P : A → Type 0) (xs ys : List A) → Each P (xs ++ ys) → Each P ys
each_back P [] ys all = all
each_back P (x ∷ xs) ys (one, all) = each_back P xs ys all

below : (n : ℕ) (o : Option ℕ) → IsBelow n o → OfSome (λ m. m < n) o
below n None h = tt
below n (Some m) h = h

job_told : (o : Option Maker) (number : Option ℕ) → option_map (λ (m : Maker). m.job) o ≡ Some number → option_and_then (λ (m : Maker). m.job) o ≡ number
job_told None number e = absurd (none_some None number refl e)
job_told (Some m) number e = some_inj m.job number e

module _ (J : Jobs) (n : ℕ) where
  abbrev Below : Option ℕ → Type 0
  Below link = OfSome (λ m. m < n) (maker_at (map (origin_of J.jobs) J.makers) link)

  link_below : (q : Path) → IsReadOf J n q → Below (link_to J.makers q)
  link_below q (t, b) =
      subst (OfSome (λ m. m < n)) (sym (maker_is J.jobs J.makers q ∙ job_told (find (tells_of q) J.makers) t.number t.told)) (below n t.number b)

  inputs_below : (name : Path) (seen paths : List Path) → Each (IsReadOf J n) paths → Each (λ (i : Input). Below i.link) (inputs_from J name seen paths)
  inputs_below name seen [] all = tt
  inputs_below name seen (q ∷ paths) (one, all) = (link_below q one, inputs_below name (q ∷ seen) paths all)

  gathers_below : (folders : List Path) → Each (IsReadOf J n) folders → Each (λ (g : Gathered). Below g.link) (map (gathered_of J) folders)
  gathers_below [] all = tt
  gathers_below (d ∷ folders) (one, all) = (link_below d one, gathers_below folders all)

module _
    (at : Judging) (J : Jobs) (ss : List State) (lines : List Line) (origins : List Origin) (rows : Rows) (used : List Bool)
    (h : IsMoment at J ss lines origins rows used) where
  abbrev first_of : Job → State
  first_of = early at J ss lines origins rows used h

  -- what a job reads is made by jobs before it
  line_below :
      (before : List Job) (k : Job) (after : List Job) → J.jobs ≡ before ++ k ∷ after → (n : ℕ) → n ≡ length before →
      OfLine (λ m. m < n) origins (line_of J at.settings.targets k)
  line_below before k after all n count =
      let reads : Each (IsReadOf J n) (in_paths k.recipe ++ gathers_from k) = read_there J 0 before k after (subst (ReadEarlier J 0) all h.served.reads) n (omega arith) in
      subst (λ (os : List Origin). OfLine (λ m. m < n) os (line_of J at.settings.targets k)) (sym h.each_origin) (
        inputs_below J n (job_path k) [] (in_paths k.recipe) (each_front (IsReadOf J n) (in_paths k.recipe) (gathers_from k) reads),
        gathers_below J n (gathers_from k) (each_back (IsReadOf J n) (in_paths k.recipe) (gathers_from k) reads),
      )

  -- the rank by the ranks of the jobs before is that by all ranks that agree with those
  rank_before :
      (v u : List Rank) (before : List Job) (k : Job) (after : List Job) → J.jobs ≡ before ++ k ∷ after → (n : ℕ) → n ≡ length before →
      ((m : ℕ) → m < n → slice_get v m ≡ slice_get u m) → (line : Line) → line ≡ line_of J at.settings.targets k → (b : Bool) →
      first_rank v origins rows (reasons_at at J) line n b ≡ first_rank u origins rows (reasons_at at J) line n b
  rank_before v u before k after all n count agree line is b =
      first_alike v u origins (told_at at J rows) (told_at at J rows) (λ m. m < n) agree (λ m q. refl) (λ m o e q. refl) line n b b
      (subst (OfLine (λ m. m < n) origins) (sym is) (line_below before k after all n count)) refl refl refl refl

  -- such are the ranks of the first states
  pub ranks_told : AreFirst lines origins (told_at at J rows) used (map rank_of (first_states at J ss))
  ranks_told = record { each = each }
    where
      all_ranks : List Rank
      all_ranks = map rank_of (map first_of J.jobs)

      each :
          (n : ℕ) (line : Line) → slice_get lines n ≡ Some line →
          slice_get (map rank_of (map first_of J.jobs)) n ≡ Some (first_rank (map rank_of (map first_of J.jobs)) origins rows (reasons_at at J) line n (slice_index_or used n false))
      each n line e =
          let within : n < length J.jobs = subst (λ (c : ℕ). n < c) (size at J ss lines origins rows used h) (got_below lines n line e) in
          let p = split_at J.jobs n within in
          let before = take n J.jobs in
          let after = drop (suc n) J.jobs in
          let front = map rank_of (map first_of before) in
          let count = sym p.2 in
          let long : length front ≡ n = length-map (map first_of before) rank_of ∙ length-map before first_of ∙ p.2 in
          let line_is : line ≡ line_of J at.settings.targets p.0 =
          sym (get_or_from_slice_get lines n line line e) ∙ line_there at J ss lines origins rows used h before p.0 after p.1 n count line in
          let whole : map rank_of (map first_of J.jobs) ≡ front ++ rank_of (first_of p.0) ∷ map rank_of (map first_of after) =
          ap (λ js. map rank_of (map first_of js)) p.1 ∙ ap (map rank_of) (map-append first_of before (p.0 ∷ after)) ∙ map-append rank_of (map first_of before) (map first_of (p.0 ∷ after)) in
          ap (λ (rs : List Rank). slice_get rs n) whole
          ∙ there front (rank_of (first_of p.0)) (map rank_of (map first_of after)) n long
          ∙ ap Some
          (sym
          (rank_before (map rank_of (map first_of J.jobs)) front before p.0 after p.1 n count
          (λ m lt. ap (λ (rs : List Rank). slice_get rs m) whole ∙ front_alike front (rank_of (first_of p.0) ∷ map rank_of (map first_of after)) m (omega (arith, lt, long)))
          line line_is (slice_index_or used n false)
          ∙ first_is at J ss lines origins rows used h before p.0 after p.1 n count line (slice_index_or used n false) line_is
          (used_there at J ss lines origins rows used h before p.0 after p.1 n count)))

  -- and no others are told so
  pub ranks_are : (ranks : List Rank) → length ranks ≡ length lines → AreFirst lines origins (told_at at J rows) used ranks → ranks ≡ map rank_of (first_states at J ss)
  ranks_are ranks long first =
      first_done at J ss lines origins rows used h (length lines) ranks (omega arith)
      (sym (take_all (length lines) ranks (omega (arith, long))) ∙ so_far (length lines) (omega arith))
    where
      so_far : (n : ℕ) → n ≤ length lines → take n ranks ≡ map rank_of (map first_of (take n J.jobs))
      so_far zero le = refl
      so_far (suc n) le =
          let p = split_at ranks n (omega (arith, le, long)) in
          let l = split_at lines n (omega (arith, le)) in
          let line = l.0 in
          let at_line : slice_get lines n ≡ Some line = ap (λ (ls : List Line). slice_get ls n) l.1 ∙ there (take n lines) line (drop (suc n) lines) n l.2 in
          let at_rank : slice_get ranks n ≡ Some p.0 = ap (λ (rs : List Rank). slice_get rs n) p.1 ∙ there (take n ranks) p.0 (drop (suc n) ranks) n p.2 in
          let within : n < length J.jobs = subst (λ (c : ℕ). n < c) (size at J ss lines origins rows used h) (omega (arith, le)) in
          let k = split_at J.jobs n within in
          let got : line ≡ get_or lines n line = sym (get_or_from_slice_get lines n line line at_line) in
          let line_is = got ∙ line_there at J ss lines origins rows used h (take n J.jobs) k.0 (drop (suc n) J.jobs) k.1 n (sym k.2) line in
          let u = get_or used n false in
          let rank : p.0 ≡ first_rank (take n ranks) origins rows (reasons_at at J) line n u =
          some_inj p.0 (first_rank ranks origins rows (reasons_at at J) line n u) (sym at_rank ∙ first.each n line at_line)
          ∙ rank_before ranks (take n ranks) (take n J.jobs) k.0 (drop (suc n) J.jobs) k.1 n (sym k.2)
          (λ m lt. ap (λ (rs : List Rank). slice_get rs m) p.1 ∙ front_alike (take n ranks) (p.0 ∷ drop (suc n) ranks) m (omega (arith, lt, p.2))) line line_is u in
          first_step at J ss lines origins rows used h n line u p.0 (take n ranks) (take n ranks) (take (suc n) ranks) (omega (arith, le)) got refl refl rank p.3
          (so_far n (omega (arith, le)))
          ∙ ap (λ m. map rank_of (map first_of (take m J.jobs))) (add-one n)

-- ## A step

-- the ranks of the first pass stay, where each that is doubted is told by them, and of all others what they are told by stays
pub ranks_stay :
    (lines : List Line) (origins : List Origin) (before now : Told) (was used doubts plain : List Bool) (u v : List Rank) (job : ℕ) (readers : List ℕ) → plain ≡ map (is_plain origins) lines →
    AreFirst lines origins before was u → AreRowsBut origins job readers before now → ((m : ℕ) → (m == job) ≡ false → slice_get v m ≡ slice_get u m) →
    ((n : ℕ) (line : Line) → slice_get lines n ≡ Some line → slice_index_or doubts n false ≡ true → IsToldBy origins now used plain job v n line) →
    ((n : ℕ) (line : Line) → slice_get lines n ≡ Some line → slice_index_or doubts n false ≡ false → IsUntouched origins job readers was used n line) →
    AreFirst lines origins now used v
ranks_stay lines origins before now was used doubts plain u v job readers plain_is first rows agree checked others = record { each = each }
  where
    apart : (link : Option ℕ) → is_made_by origins job link ≡ false → OfSome (λ m. (m == job) ≡ false) (maker_at origins link)
    apart link e = go (maker_at origins link) e
      where
        go : (o : Option ℕ) → is_link job o ≡ false → OfSome (λ m. (m == job) ≡ false) o
        go None f = tt
        go (Some m) f = f

    all_apart : {A : Type 0} (link : A → Option ℕ) (xs : List A) → list_any (λ x. is_made_by origins job (link x)) xs ≡ false → Each (λ x. OfSome (λ m. (m == job) ≡ false) (maker_at origins (link x))) xs
    all_apart link [] e = tt
    all_apart link (x ∷ xs) e =
        let both = or_false (is_made_by origins job (link x)) (list_any (λ x. is_made_by origins job (link x)) xs) e in
        (apart (link x) both.0, all_apart link xs both.1)

    job_apart : (o : Option ℕ) → OfSome (λ m. (m == job) ≡ false) o → is_link job o ≡ false
    job_apart None e = refl
    job_apart (Some m) e = e

    still : (n : ℕ) (line : Line) → slice_get lines n ≡ Some line → IsStillDirty origins plain job v n line → rank_told v origins now line n (slice_index_or used n false) ≡ AtDirty
    still n line e s =
        stays_dirty origins v u now before job agree s.shut line n (slice_index_or was n false) (slice_index_or used n false)
        (sym (flag_there (is_plain origins) lines n line e) ∙ ap (λ (flags : List Bool). slice_index_or flags n false) (sym plain_is) ∙ s.plain) s.above (rows.running n s.other)
        (some_inj (rank_told u origins before line n (slice_index_or was n false)) AtDirty (sym (first.each n line e) ∙ sym (agree n s.other) ∙ s.dirty))

    by_told :
        (n : ℕ) (line : Line) → slice_get lines n ≡ Some line → IsToldBy origins now used plain job v n line →
        slice_get v n ≡ Some (rank_told v origins now line n (slice_index_or used n false))
    by_told n line e (inl told) = told
    by_told n line e (inr s) = s.dirty ∙ ap Some (sym (still n line e s))

    each : (n : ℕ) (line : Line) → slice_get lines n ≡ Some line → slice_get v n ≡ Some (rank_told v origins now line n (slice_index_or used n false))
    each n line e = go (slice_index_or doubts n false) refl
      where
        go : (b : Bool) → slice_index_or doubts n false ≡ b → slice_get v n ≡ Some (rank_told v origins now line n (slice_index_or used n false))
        go true d = by_told n line e (checked n line e d)
        go false d =
            let x = others n line e d in
            let links = or_false (list_any (λ (i : Input). is_made_by origins job i.link) line.inputs) (list_any (λ (g : Gathered). is_made_by origins job g.link) line.gathers) x.unread in
            agree n x.other ∙ first.each n line e
            ∙ ap Some
            (sym
            (first_alike v u origins now before (λ m. (m == job) ≡ false) agree rows.outputs (λ m o f q. rows.makers m o f (job_apart o.job q)) line n
            (slice_index_or used n false) (slice_index_or was n false)
            (all_apart (λ (i : Input). i.link) line.inputs links.0, all_apart (λ (g : Gathered). g.link) line.gathers links.1)
            x.reading (rows.outputs n x.other) (rows.reasons n x.other x.no_reader) (rows.running n x.other)))

-- ## Lines one after another

-- one line more
pub one_more :
    (lines : List Line) (P : ℕ → Line → Type 0) (number : ℕ) (found : Line) → number < length lines → found ≡ get_or lines number found → P number found →
    ((n : ℕ) (line : Line) → n < number → slice_get lines n ≡ Some line → P n line) → (n : ℕ) (line : Line) → n < number + 1 → slice_get lines n ≡ Some line → P n line
one_more lines P number found within is one so_far n line lt e = go (nat_eq n number) refl
  where
    go : (b : Bool) → nat_eq n number ≡ b → P n line
    go false d = so_far n line (omega (arith, lt, eqb-false n number d)) e
    go true d =
        let same : n ≡ number = eqb-true n number d in
        let here : line ≡ found =
        sym (get_or_from_slice_get lines n line found e) ∙ ap (λ m. get_or lines m found) same ∙ sym is in
        subst (λ m. P m line) (sym same) (subst (P number) (sym here) one)

-- all lines
pub all_lines :
    (lines : List Line) (P : ℕ → Line → Type 0) (number : ℕ) → length lines ≤ number →
    ((n : ℕ) (line : Line) → n < number → slice_get lines n ≡ Some line → P n line) → (n : ℕ) (line : Line) → slice_get lines n ≡ Some line → P n line
all_lines lines P number done so_far n line e = let lt = got_below lines n line e in so_far n line (omega (arith, lt, done)) e

-- ## States

pub states_long : (origins : List Origin) (rows : Told) (ranks : List Rank) (k : ℕ) (lines : List Line) → length (states_from origins rows ranks k lines) ≡ length lines
states_long origins rows ranks k [] = refl
states_long origins rows ranks k (line ∷ lines) = ap suc (states_long origins rows ranks (suc k) lines)

-- the state of the number is that of its line
pub state_at :
    (origins : List Origin) (rows : Told) (ranks : List Rank) (k : ℕ) (lines : List Line) (n : ℕ) (line : Line) → slice_get lines n ≡ Some line →
    slice_get (states_from origins rows ranks k lines) n ≡ Some (state_told origins rows ranks (k + n) line)
state_at origins rows ranks k [] n line e = absurd (none_some None line refl e)
state_at origins rows ranks k (x ∷ lines) zero line e =
    let same : k ≡ k + 0 = omega arith in
    λ i. Some (state_told origins rows ranks (same i) (some_inj x line e i))
state_at origins rows ranks k (x ∷ lines) (suc n) line e =
    let same : suc k + n ≡ k + suc n = omega arith in
    state_at origins rows ranks (suc k) lines n line e ∙ ap (λ m. Some (state_told origins rows ranks m line)) same

pub state_there :
    (lines : List Line) (origins : List Origin) (rows : Told) (ranks : List Rank) (n : ℕ) (line : Line) → slice_get lines n ≡ Some line →
    slice_get (states_told lines origins rows ranks) n ≡ Some (state_told origins rows ranks n line)
state_there lines origins rows ranks n line e =
    let plain : 0 + n ≡ n = omega arith in
    state_at origins rows ranks 0 lines n line e ∙ ap (λ m. Some (state_told origins rows ranks m line)) plain

-- beyond the lines there is none
pub state_beyond :
    (origins : List Origin) (rows : Told) (ranks : List Rank) (k : ℕ) (lines : List Line) (n : ℕ) → slice_get lines n ≡ None →
    slice_get (states_from origins rows ranks k lines) n ≡ None
state_beyond origins rows ranks k [] n e = refl
state_beyond origins rows ranks k (x ∷ lines) zero e = absurd (none_some None x refl (sym e))
state_beyond origins rows ranks k (x ∷ lines) (suc n) e = state_beyond origins rows ranks (suc k) lines n e

but_last_is : (xs : List Reason) (x : Reason) → but_last (xs ++ x ∷ []) ≡ xs
but_last_is [] x = refl
but_last_is (y ∷ []) x = refl
but_last_is (y ∷ z ∷ xs) x = ap (λ ys. y ∷ ys) (but_last_is (z ∷ xs) x)

nothing_more : (xs : List Reason) → xs ++ [] ≡ xs
nothing_more [] = refl
nothing_more (x ∷ xs) = ap (λ ys. x ∷ ys) (nothing_more xs)

-- the reasons without Forced, where it stands last
pub alone_is : (forced : Bool) (alone : List Reason) → alone_in forced (alone ++ when forced Forced) ≡ alone
alone_is true alone = but_last_is alone Forced
alone_is false alone = nothing_more alone

-- so they are all but the last
pub alone_off : (forced : Bool) (own alone : List Reason) (x : Reason) → forced ≡ true → own ≡ alone ++ x ∷ [] → alone ≡ alone_in forced own
alone_off true own alone x e h = sym (but_last_is alone x) ∙ ap but_last (sym h)
alone_off false own alone x e h = absurd (true≢false (sym e))

all_alike : {A : Type 0} (xs ys : List A) → length xs ≡ length ys → ((n : ℕ) → n < length xs → slice_get xs n ≡ slice_get ys n) → xs ≡ ys
all_alike [] [] e h = refl
all_alike [] (y ∷ ys) e h = absurd (omega arith)
all_alike (x ∷ xs) [] e h = absurd (omega arith)
all_alike (x ∷ xs) (y ∷ ys) e h =
    let one = some_inj x y (h 0 (omega arith)) in
    let more = all_alike xs ys (omega arith) (λ n lt. h (suc n) (omega arith)) in
    λ i. one i ∷ more i

module _
    (at : Judging) (J : Jobs) (ss : List State) (lines : List Line) (origins : List Origin) (rows : Rows) (used : List Bool)
    (h : IsMoment at J ss lines origins rows used) where
  -- what is told of the job of the number
  record IsAt (n : ℕ) (line : Line) : Type 0 where
    job : Job
    state : slice_get ss n ≡ Some (state_of at.image at.settings at.progress (with_states J ss) job)
    alone : slice_index_or (reasons_at at J) n [] ≡ own_of at.image at.settings at.progress J job ++ when (slice_index_or (forced_at at J) n false) Forced
    made :
        state_of at.image at.settings at.progress (with_states J ss) job
        ≡ state_by (slice_index_or rows.running.now n None) (slice_index_or (map rank_of ss) n AtOpen)
        (own_of at.image at.settings at.progress J job ++ (map Upstream (upstream_paths (map rank_of ss) origins line.inputs) ++ when (slice_index_or (forced_at at J) n false) Forced))

  at_number : (n : ℕ) (line : Line) → slice_get lines n ≡ Some line → IsAt n line
  at_number n line e =
      let within : n < length J.jobs = subst (λ (c : ℕ). n < c) (size at J ss lines origins rows used h) (got_below lines n line e) in
      let p = split_at J.jobs n within in
      let k = p.0 in
      let before = take n J.jobs in
      let after = drop (suc n) J.jobs in
      let count = sym p.2 in
      let late = state_of at.image at.settings at.progress (with_states J ss) in
      let line_is : line ≡ line_of J at.settings.targets k =
      sym (get_or_from_slice_get lines n line line e) ∙ line_there at J ss lines origins rows used h before k after p.1 n count line in
      let forced = forced_there at J ss lines origins rows used h before k after p.1 n count in
      let running = running_there at J ss lines origins rows used h before k after p.1 n count in
      let reasons = reasons_there at J ss lines origins rows used h before k after p.1 n count in
      let long : length (map late before) ≡ n = length-map before late ∙ p.2 in
      let whole : ss ≡ map late before ++ late k ∷ map late after = h.solved ∙ ap (map late) p.1 ∙ map-append late before (k ∷ after) in
      let state : slice_get ss n ≡ Some (late k) = ap (λ (xs : List State). slice_get xs n) whole ∙ there (map late before) (late k) (map late after) n long in
      let rank : slice_index_or (map rank_of ss) n AtOpen ≡ rank_of (late k) =
      get_or_from_slice_get (map rank_of ss) n (rank_of (late k)) AtOpen (slice_get-map rank_of ss n ∙ ap (option_map rank_of) state) in
      record {
        job = k;
        state = state;
        alone = reasons ∙ ap (λ b. own_of at.image at.settings at.progress J k ++ when b Forced) (sym forced);
        made = sym (state_here at J ss lines origins rows used h k (here at J ss lines origins rows used h before k after p.1 n count))
            ∙ sym
            (λ i.
            state_by (running i) (rank i)
            (own_of at.image at.settings at.progress J k ++ (map Upstream (upstream_paths (map rank_of ss) (h.each_origin i) (line_is i).inputs) ++ when (forced i) Forced)));
      }

  -- the states by the ranks of the table's states are those
  pub states_are : states_told lines origins (told_at at J rows) (map rank_of ss) ≡ ss
  states_are =
      all_alike (states_told lines origins (told_at at J rows) (map rank_of ss)) ss (long ∙ size at J ss lines origins rows used h ∙ sym (ap length h.solved ∙ length-map J.jobs (state_of at.image at.settings at.progress (with_states J ss)))) one
    where
      long : length (states_told lines origins (told_at at J rows) (map rank_of ss)) ≡ length lines
      long = states_long origins (told_at at J rows) (map rank_of ss) 0 lines

      one : (n : ℕ) → n < length (states_told lines origins (told_at at J rows) (map rank_of ss)) → slice_get (states_told lines origins (told_at at J rows) (map rank_of ss)) n ≡ slice_get ss n
      one n lt =
          let l = split_at lines n (subst (λ (c : ℕ). n < c) (states_long origins (told_at at J rows) (map rank_of ss) 0 lines) lt) in
          let e : slice_get lines n ≡ Some l.0 = ap (λ (ls : List Line). slice_get ls n) l.1 ∙ there (take n lines) l.0 (drop (suc n) lines) n l.2 in
          let x = at_number n l.0 e in
          let forced = slice_index_or (forced_at at J) n false in
          let alone : alone_in forced (slice_index_or (reasons_at at J) n []) ≡ own_of at.image at.settings at.progress J x.job =
          ap (alone_in forced) x.alone ∙ alone_is forced (own_of at.image at.settings at.progress J x.job) in
          let plain : 0 + n ≡ n = omega arith in
          state_at origins (told_at at J rows) (map rank_of ss) 0 lines n l.0 e
          ∙ ap (λ m. Some (state_told origins (told_at at J rows) (map rank_of ss) m l.0)) plain
          ∙ ap
          (λ (own : List Reason).
          Some
          (state_by (slice_index_or rows.running.now n None) (slice_index_or (map rank_of ss) n AtOpen)
          (own ++ (map Upstream (upstream_paths (map rank_of ss) origins l.0.inputs) ++ when forced Forced))))
          alone
          ∙ ap Some (sym x.made) ∙ sym x.state

-- one line more is watched
pub watched_more :
    (lines : List Line) (origins : List Origin) (number : ℕ) (line : Line) (found new : List (List ℕ)) →
    number < length lines → line ≡ get_or lines number line → length found ≡ length lines →
    ((j n : ℕ) → j < length found → has_number n (slice_index_or new j []) ≡ (has_number n (slice_index_or found j []) || (reads_of origins j line && number == n))) →
    ((n : ℕ) (line : Line) → n < number → slice_get lines n ≡ Some line → (job : ℕ) → job < length lines → reads_of origins job line ≡ true → has_number n (slice_index_or found job []) ≡ true) →
    (n : ℕ) (line : Line) → n < number + 1 → slice_get lines n ≡ Some line → (job : ℕ) → job < length lines → reads_of origins job line ≡ true → has_number n (slice_index_or new job []) ≡ true
watched_more lines origins number line found new within is long set so_far =
    one_more lines (λ n line. (job : ℕ) → job < length lines → reads_of origins job line ≡ true → has_number n (slice_index_or new job []) ≡ true) number line within is
    (λ job lt reads.
    set job number (omega (arith, lt, long))
    ∙ ap (λ b. has_number number (slice_index_or found job []) || (b && number == number)) reads
    ∙ ap (λ b. has_number number (slice_index_or found job []) || b) (eq-eqb number number refl)
    ∙ or-true (has_number number (slice_index_or found job [])))
    (λ n l lt e job within reads.
    set job n (omega (arith, within, long)) ∙ ap (λ b. b || (reads_of origins job line && number == n)) (so_far n l lt e job within reads))

-- ## The first pass, by numbers alone

take_front : {A : Type 0} (xs ys : List A) (n : ℕ) → length xs ≡ n → take n (xs ++ ys) ≡ xs
take_front [] ys zero e = refl
take_front [] ys (suc n) e = absurd (omega arith)
take_front (x ∷ xs) ys zero e = absurd (omega arith)
take_front (x ∷ xs) ys (suc n) e = ap (λ zs. x ∷ zs) (take_front xs ys n (omega arith))

take_within : {A : Type 0} (xs ys : List A) (n : ℕ) → n ≤ length xs → take n (xs ++ ys) ≡ take n xs
take_within xs ys zero h = refl
take_within [] ys (suc n) h = absurd (omega arith)
take_within (x ∷ xs) ys (suc n) h = ap (λ zs. x ∷ zs) (take_within xs ys n (omega arith))

pub first_more :
    (lines : List Line) (origins : List Origin) (rows : Told) (used : List Bool) (number : ℕ) (line : Line) (u : Bool) (rank : Rank) (old seen new : List Rank) →
    number < length lines → line ≡ get_or lines number line → u ≡ get_or used number false → seen ≡ old → rank ≡ rank_told seen origins rows line number u → new ≡ old ++ rank ∷ [] →
    length old ≡ number →
    ((n : ℕ) (line : Line) → n < number → slice_get lines n ≡ Some line → IsByEarlier origins rows used old n line) →
    (n : ℕ) (line : Line) → n < number + 1 → slice_get lines n ≡ Some line → IsByEarlier origins rows used new n line
first_more lines origins rows used number line u rank old seen new within is flag lent_is told made long so_far =
    one_more lines (IsByEarlier origins rows used new) number line within is
    (ap (λ (rs : List Rank). slice_get rs number) made ∙ there old rank [] number long
    ∙ ap Some
    (told
    ∙ (λ i. rank_told ((lent_is ∙ sym (take_front old (rank ∷ []) number long) ∙ ap (take number) (sym made)) i) origins rows line number (flag i))))
    (λ n l lt e.
    ap (λ (rs : List Rank). slice_get rs n) made ∙ front_alike old (rank ∷ []) n (omega (arith, lt, long)) ∙ so_far n l lt e
    ∙ ap (λ (rs : List Rank). Some (rank_told rs origins rows l n (slice_index_or used n false)))
    (sym (take_within old (rank ∷ []) n (omega (arith, lt, long))) ∙ ap (take n) (sym made)))

pub first_by_all :
    (lines : List Line) (origins : List Origin) (rows : Told) (used : List Bool) (ranks : List Rank) →
    length ranks ≡ length lines → ((n : ℕ) (line : Line) → slice_get lines n ≡ Some line → IsByEarlier origins rows used ranks n line) → AreEarlier lines origins →
    AreFirst lines origins rows used ranks
first_by_all lines origins rows used ranks long told earlier = record { each = each }
  where
    each : (n : ℕ) (line : Line) → slice_get lines n ≡ Some line → slice_get ranks n ≡ Some (rank_told ranks origins rows line n (slice_index_or used n false))
    each n line e =
        let lt = got_below lines n line e in
        let p = split_at ranks n (omega (arith, lt, long)) in
        told n line e
        ∙ ap Some
        (sym
        (first_alike ranks (take n ranks) origins rows rows (λ m. m < n)
        (λ m q. ap (λ (rs : List Rank). slice_get rs m) p.1 ∙ front_alike (take n ranks) (p.0 ∷ drop (suc n) ranks) m (omega (arith, q, p.2)))
        (λ m q. refl) (λ m o f q. refl) line n (slice_index_or used n false) (slice_index_or used n false) (earlier n line e) refl refl refl refl))

-- jobs that serve their targets have such lines
pub served_earlier : (J : Jobs) (asked : List Path) → AreServed J asked → AreEarlier (map (line_of J asked) J.jobs) (map (origin_of J.jobs) J.makers)
served_earlier J asked served n line e =
    let within : n < length J.jobs = subst (λ (c : ℕ). n < c) (length-map J.jobs (line_of J asked)) (got_below (map (line_of J asked) J.jobs) n line e) in
    let p = split_at J.jobs n within in
    let before = take n J.jobs in
    let after = drop (suc n) J.jobs in
    let k = p.0 in
    let long : length (map (line_of J asked) before) ≡ n = length-map before (line_of J asked) ∙ p.2 in
    let whole : map (line_of J asked) J.jobs ≡ map (line_of J asked) before ++ line_of J asked k ∷ map (line_of J asked) after =
    ap (map (line_of J asked)) p.1 ∙ map-append (line_of J asked) before (k ∷ after) in
    let is : line_of J asked k ≡ line =
    some_inj (line_of J asked k) line
    (sym (ap (λ (ls : List Line). slice_get ls n) whole ∙ there (map (line_of J asked) before) (line_of J asked k) (map (line_of J asked) after) n long) ∙ e) in
    let reads : Each (IsReadOf J n) (in_paths k.recipe ++ gathers_from k) =
    read_there J 0 before k after (subst (ReadEarlier J 0) p.1 served.reads) n (omega (arith, p.2)) in
    subst (OfLine (λ m. m < n) (map (origin_of J.jobs) J.makers)) is (
      inputs_below J n (job_path k) [] (in_paths k.recipe) (each_front (IsReadOf J n) (in_paths k.recipe) (gathers_from k) reads),
      gathers_below J n (gathers_from k) (each_back (IsReadOf J n) (in_paths k.recipe) (gathers_from k) reads),
    )
