-- How the paths with numbers grow.
use Rattle.std.proofs.Common.{◌≡◌, ℕ, zero, suc, ◌+◌, ◌<◌, ⊎_elim, Bool, true, false, cond, List, [], ◌∷◌, ◌++◌, map, take, get_or, length, bytes_eq, Option, Some, None, option_map, slice_get, refl, sym, ap, ap₂, subst, ◌∙◌, arith}
use Rattle.std.specs.BTreeMap.{get_by_text}
use Rattle.std.specs.List.{flat_map, enumerate_from, AllByRecursion}
use Rattle.std.proofs.lemmas.List.{get_or_append_left, get_or_push, append-nil, append_assoc, length-append, map-append, take_more, length_push}
use Rattle.std.proofs.lemmas.Slice.Eq.{bytes_eq-Decides}
use Rattle.std.proofs.lemmas.Bool.{cases_lt}
use Rattle.std.proofs.lemmas.Option.{same_Some, none-some}
use Rattle.smk_base.specs.declared.tree.Pair.{Pair}
use Rattle.smk_base.specs.Path.{is_path}
use Rattle.smk_world.specs.Trees.{Path}
use Rattle.smk_pattern.specs.Shapes.{Text, Shape}
use Rattle.smk_pattern.specs.Reading.{fill, shape_of}
use Rattle.smk_pattern.proofs.FillPieces.{fill_is_filled}
use Rattle.smk_flow.specs.declared.rule.RulePart.{RulePart}
use Rattle.smk_flow.specs.declared.rule.InPart.{InPart}
use Rattle.smk_flow.specs.declared.rule.GatherPart.{GatherPart}
use Rattle.smk_flow.specs.declared.job.Gather.{Gather}
use Rattle.smk_flow.specs.Flows.{Flow, Candidate, first_wants, gather_at}
use Rattle.smk_choose.specs.declared.nodes.Want.{Want}
use Rattle.smk_choose.specs.declared.nodes.Want.TheVariants as want
use Rattle.smk_choose.specs.declared.nodes.Way.{Way}
use Rattle.smk_choose.specs.declared.nodes.Node.{Node}
use Rattle.smk_choose.specs.declared.reach.Reach.{Reach}
use Rattle.smk_choose.specs.declared.choice.Making.{Making}
use Rattle.smk_choose.specs.declared.readings.Reading.{Reading}
use Rattle.smk_choose.specs.Choose.{Sources, candidates}
use Rattle.smk_choose.specs.Told.{making}
use Rattle.smk_choose.specs.Readings.{reading_of, filled_by, input_shapes, gather_shapes, gather_shape, gathered_from}
use Rattle.smk_choose.specs.Reach.{path_at, IsWant, AreWants, shapes_in, wants_by, IsMade, AreMade, AreWays, IsNode, AreNumbered, Grows}
use Rattle.smk_choose.specs.Heights.{node_at, no_node}

pub grows_same : (r : Reach) → Grows r r
grows_same r = record { added = []; paths = sym (append-nil r.paths.items); more = []; nodes = sym (append-nil r.nodes.items); numbers = λ p n e. e }

pub grows_then : (a b c : Reach) → Grows a b → Grows b c → Grows a c
grows_then a b c g h = record {
  added = g.added ++ h.added;
  paths = h.paths ∙ ap (λ xs. xs ++ h.added) g.paths ∙ append_assoc a.paths.items g.added h.added;
  more = g.more ++ h.more;
  nodes = h.nodes ∙ ap (λ xs. xs ++ h.more) g.nodes ∙ append_assoc a.nodes.items g.more h.more;
  numbers = λ p n e. h.numbers p n (g.numbers p n e);
}

-- ---- what is wanted stays wanted

want_more : (paths added : List Path) (w : Want) (t : Text) → IsWant paths w t → IsWant (paths ++ added) w t
want_more paths added (want.Path n) t is = (omega (arith, is.0, length-append paths added), get_or_append_left paths added [] n is.0 ∙ is.1)
want_more paths added (want.NoPath s) t is = is

wants_more : (paths added : List Path) (ws : List Want) (ts : List Text) → AreWants paths ws ts → AreWants (paths ++ added) ws ts
wants_more paths added [] [] are = tt
wants_more paths added [] (t ∷ ts) are = absurd are
wants_more paths added (w ∷ ws) [] are = absurd are
wants_more paths added (w ∷ ws) (t ∷ ts) are = (want_more paths added w t are.0, wants_more paths added ws ts are.1)

made_more : (readings : List Reading) (paths added : List Path) (ws : List Way) (ms : List Making) → AreMade readings paths ws ms → AreMade readings (paths ++ added) ws ms
made_more readings paths added [] [] are = tt
made_more readings paths added [] (m ∷ ms) are = absurd are
made_more readings paths added (w ∷ ws) [] are = absurd are
made_more readings paths added (w ∷ ws) (m ∷ ms) are =
    ((are.0.0, wants_more paths added w.wants (wants_by readings m) are.0.1), made_more readings paths added ws ms are.1)

pub wants_later : (old new : Reach) (ws : List Want) (ts : List Text) → Grows old new → AreWants old.paths.items ws ts → AreWants new.paths.items ws ts
wants_later old new ws ts g are = subst (λ (ps : List Path). AreWants ps ws ts) (sym g.paths) (wants_more old.paths.items g.added ws ts are)

pub made_later : (readings : List Reading) (old new : Reach) (ws : List Way) (ms : List Making) → Grows old new → AreMade readings old.paths.items ws ms →
    AreMade readings new.paths.items ws ms
made_later readings old new ws ms g are = subst (λ (ps : List Path). AreMade readings ps ws ms) (sym g.paths) (made_more readings old.paths.items g.added ws ms are)

pub wants_push : (paths : List Path) (ws : List Want) (ts : List Text) (w : Want) (t : Text) → AreWants paths ws ts → IsWant paths w t →
    AreWants paths (ws ++ w ∷ []) (ts ++ t ∷ [])
wants_push paths [] [] w t are is = (is, tt)
wants_push paths [] (x ∷ ts) w t are is = absurd are
wants_push paths (v ∷ ws) [] w t are is = absurd are
wants_push paths (v ∷ ws) (x ∷ ts) w t are is = (are.0, wants_push paths ws ts w t are.1 is)

pub made_push : (readings : List Reading) (paths : List Path) (ws : List Way) (ms : List Making) (w : Way) (m : Making) → AreMade readings paths ws ms →
    IsMade readings paths w m → AreMade readings paths (ws ++ w ∷ []) (ms ++ m ∷ [])
made_push readings paths [] [] w m are is = (is, tt)
made_push readings paths [] (x ∷ ms) w m are is = absurd are
made_push readings paths (v ∷ ws) [] w m are is = absurd are
made_push readings paths (v ∷ ws) (x ∷ ms) w m are is = (are.0, made_push readings paths ws ms w m are.1 is)

-- ---- a new path

module _ (old new : Reach) (path : Path) (n : ℕ) (known : AreNumbered old) (is : is_path path ≡ true) (count : n ≡ length old.paths.items)
    (pushed : new.paths.items ≡ old.paths.items ++ path ∷ [])
    (put : (q : Path) → get_by_text new.numbers q ≡ cond (bytes_eq path q) (Some n) (get_by_text old.numbers q)) (fresh : get_by_text old.numbers path ≡ None) where
  len : length new.paths.items ≡ length old.paths.items + 1
  len = ap length pushed ∙ length_push old.paths.items path

  before : (m : ℕ) → m < length old.paths.items → path_at new.paths.items m ≡ path_at old.paths.items m
  before m lt = ap (λ (ps : List Path). path_at ps m) pushed ∙ get_or_append_left old.paths.items (path ∷ []) [] m lt

  here : (m : ℕ) → length old.paths.items ≡ m → path_at new.paths.items m ≡ path
  here m e = ap (λ (ps : List Path). path_at ps m) pushed ∙ get_or_push old.paths.items path [] m e

  at_by : (p : Path) (m : ℕ) (b : Bool) → bytes_eq path p ≡ b → cond b (Some n) (get_by_text old.numbers p) ≡ Some m → (m < length new.paths.items) × (path_at new.paths.items m ≡ p)
  at_by p m true e f =
      let same : n ≡ m = same_Some n m f in
      (omega (arith, len, count, same), here m (sym count ∙ same) ∙ (bytes_eq-Decides path p).0 e)
  at_by p m false e f =
      let k = known.at p m f in
      (omega (arith, len, k.0), before m k.0 ∙ k.1)

  pub numbered_new : AreNumbered new
  numbered_new = record {
    are = λ m lt. ⊎_elim
        (λ early. ap is_path (before m early) ∙ known.are m early)
        (λ late. ap is_path (here m (omega (arith, len, lt, late))) ∙ is)
        (cases_lt m (length old.paths.items));
    at = λ p m e. at_by p m (bytes_eq path p) refl (sym (put p) ∙ e);
  }

  kept_by : (p : Path) (m : ℕ) (b : Bool) → bytes_eq path p ≡ b → get_by_text old.numbers p ≡ Some m → cond b (Some n) (get_by_text old.numbers p) ≡ Some m
  kept_by p m true e f = absurd (none-some m (sym fresh ∙ ap (get_by_text old.numbers) ((bytes_eq-Decides path p).0 e) ∙ f))
  kept_by p m false e f = f

  pub grows_new : new.nodes ≡ old.nodes → Grows old new
  grows_new same = record {
    added = path ∷ [];
    paths = pushed;
    more = [];
    nodes = ap (λ v. v.items) same ∙ sym (append-nil old.nodes.items);
    numbers = λ p m e. put p ∙ kept_by p m (bytes_eq path p) refl e;
  }

-- ---- lists of wants and ways

pub wants_step : (paths : List Path) (ws new : List Want) (w : Want) (t : Text) (f : Shape → Text) (patterns : List Shape) (i : ℕ) (p : Shape) → i < length patterns →
    p ≡ get_or patterns i p → AreWants paths ws (map f (take i patterns)) → new ≡ ws ++ w ∷ [] → IsWant paths w t → t ≡ f p →
    AreWants paths new (map f (take (i + 1) patterns))
wants_step paths ws new w t f patterns i p lt at are e is same =
    let texts : map f (take (i + 1) patterns) ≡ map f (take i patterns) ++ t ∷ [] =
    ap (map f) (take_more patterns i p lt) ∙ map-append f (take i patterns) (get_or patterns i p ∷ [])
    ∙ ap (λ s. map f (take i patterns) ++ s ∷ []) (ap f (sym at) ∙ sym same) in
    subst (λ (ts : List Text). AreWants paths new ts) (sym texts)
    (subst (λ (us : List Want). AreWants paths us (map f (take i patterns) ++ t ∷ [])) (sym e) (wants_push paths ws (map f (take i patterns)) w t are is))

filled_texts : (b : List Pair) (ts : List Text) → map (filled_by b) (map (shape_of []) ts) ≡ map (fill b) ts
filled_texts b [] = refl
filled_texts b (t ∷ ts) = ap₂ ◌∷◌ (fill_is_filled [] t b) (filled_texts b ts)

inputs_listed : (b : List Pair) (items : List InPart) → map (filled_by b) (flat_map input_shapes items) ≡ flat_map (λ (i : InPart). map (fill b) i.texts) items
inputs_listed b [] = refl
inputs_listed b (i ∷ items) =
    map-append (filled_by b) (input_shapes i) (flat_map input_shapes items) ∙ ap₂ ◌++◌ (filled_texts b i.texts) (inputs_listed b items)

abbrev folder_of : Gather → Text
folder_of g = g.folder

gathers_listed : (flow : Flow) (limits b : List Pair) (items : List InPart) (n : ℕ) →
    map (filled_by b) (flat_map (gather_shapes flow) items)
    ≡ map folder_of (flat_map (λ (e : ℕ × InPart). gather_at flow limits b e.0 e.1.gather) (enumerate_from n items))
gathers_listed flow limits b [] n = refl
gathers_listed flow limits b (i ∷ items) n = go i.gather (gathers_listed flow limits b items (n + 1))
  where
    later : List Gather
    later = flat_map (λ (e : ℕ × InPart). gather_at flow limits b e.0 e.1.gather) (enumerate_from (n + 1) items)

    go : (g : Option GatherPart) → map (filled_by b) (flat_map (gather_shapes flow) items) ≡ map folder_of later →
        map (filled_by b) (gather_shape flow g ++ flat_map (gather_shapes flow) items) ≡ map folder_of (gather_at flow limits b n g ++ later)
    go None more = more
    go (Some g) more = ap₂ ◌∷◌ (fill_is_filled [] (gathered_from flow g.checkpoint) b) more

at_reading : (flow : Flow) (rules : List RulePart) (n : ℕ) (part : RulePart) → slice_get rules n ≡ Some part → slice_get (map (reading_of flow) rules) n ≡ Some (reading_of flow part)
at_reading flow [] n part e = absurd (no_part part e)
  where
    no_part : (x : RulePart) → None ≡ Some x → ⊥
    no_part x e = cc
at_reading flow (r ∷ rules) zero part e = ap (option_map (reading_of flow)) e
at_reading flow (r ∷ rules) (suc n) part e = at_reading flow rules n part e

wants_listed : (flow : Flow) (c : Candidate) → slice_get flow.rules c.rule ≡ Some c.part → wants_by (map (reading_of flow) flow.rules) (making c) ≡ first_wants flow c
wants_listed flow c at =
    ap (λ o. map (filled_by c.binding) (shapes_in o)) (at_reading flow flow.rules c.rule c.part at)
    ∙ map-append (filled_by c.binding) (flat_map input_shapes c.part.inputs) (flat_map (gather_shapes flow) c.part.inputs)
    ∙ ap₂ ◌++◌ (inputs_listed c.binding c.part.inputs) (gathers_listed flow c.part.limits c.binding c.part.inputs 0)

made_ways : (flow : Flow) (paths : List Path) (ws : List Way) (cs : List Candidate) → AllByRecursion (λ (c : Candidate). slice_get flow.rules c.rule ≡ Some c.part) cs →
    AreMade (map (reading_of flow) flow.rules) paths ws (map making cs) → AreWays flow paths ws cs
made_ways flow paths [] [] placed are = tt
made_ways flow paths [] (c ∷ cs) placed are = absurd are
made_ways flow paths (w ∷ ws) [] placed are = absurd are
made_ways flow paths (w ∷ ws) (c ∷ cs) placed are =
    ((are.0.0, subst (λ (ts : List Text). AreWants paths w.wants ts) (wants_listed flow c placed.0) are.0.1), made_ways flow paths ws cs placed.1 are.1)

pub node_made : (flow : Flow) (sources : Sources) (readings : List Reading) (paths : List Path) (ws : List Way) (p : Path) (found : List Making) →
    AllByRecursion (λ (c : Candidate). slice_get flow.rules c.rule ≡ Some c.part) (candidates flow sources p) →
    readings ≡ map (reading_of flow) flow.rules → found ≡ map making (candidates flow sources p) →
    AreMade readings paths ws found → sources.is p ≡ false → IsNode flow sources paths (record { source = false; ways = ws }) p
node_made flow sources readings paths ws p found placed same listed are e = (
  sym e,
  λ e. made_ways flow paths ws (candidates flow sources p) placed
      (subst (λ (rs : List Reading). AreMade rs paths ws (map making (candidates flow sources p))) same
      (subst (λ (ms : List Making). AreMade readings paths ws ms) listed are)),
)

-- ---- more nodes

ways_more : (flow : Flow) (paths added : List Path) (ws : List Way) (cs : List Candidate) → AreWays flow paths ws cs → AreWays flow (paths ++ added) ws cs
ways_more flow paths added [] [] are = tt
ways_more flow paths added [] (c ∷ cs) are = absurd are
ways_more flow paths added (w ∷ ws) [] are = absurd are
ways_more flow paths added (w ∷ ws) (c ∷ cs) are =
    ((are.0.0, wants_more paths added w.wants (first_wants flow c) are.0.1), ways_more flow paths added ws cs are.1)

node_more : (flow : Flow) (sources : Sources) (paths added : List Path) (node : Node) (p : Path) → IsNode flow sources paths node p → IsNode flow sources (paths ++ added) node p
node_more flow sources paths added node p is = (is.0, λ e. ways_more flow paths added node.ways (candidates flow sources p) (is.1 e))

module _ (flow : Flow) (sources : Sources) (old new : Reach) (g : Grows old new) where
  pub path_stays : (n : ℕ) → n < length old.paths.items → path_at new.paths.items n ≡ path_at old.paths.items n
  path_stays n lt = ap (λ (ps : List Path). path_at ps n) g.paths ∙ get_or_append_left old.paths.items g.added [] n lt

  pub node_stays : (n : ℕ) → n < length old.nodes.items → node_at new.nodes.items n ≡ node_at old.nodes.items n
  node_stays n lt = ap (λ (ns : List Node). node_at ns n) g.nodes ∙ get_or_append_left old.nodes.items g.more no_node n lt

  pub node_later : (n : ℕ) → n < length old.paths.items → n < length old.nodes.items →
      IsNode flow sources old.paths.items (node_at old.nodes.items n) (path_at old.paths.items n) →
      IsNode flow sources new.paths.items (node_at new.nodes.items n) (path_at new.paths.items n)
  node_later n lt has is =
      subst (λ (node : Node). IsNode flow sources new.paths.items node (path_at new.paths.items n)) (sym (node_stays n has))
      (subst (λ (p : Path). IsNode flow sources new.paths.items (node_at old.nodes.items n) p) (sym (path_stays n lt))
      (subst (λ (ps : List Path). IsNode flow sources ps (node_at old.nodes.items n) (path_at old.paths.items n)) (sym g.paths)
      (node_more flow sources old.paths.items g.added (node_at old.nodes.items n) (path_at old.paths.items n) is)))
