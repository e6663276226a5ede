-- A change of some places that leaves them firm: from a sound world to a sound world.
use Rattle.std.proofs.Common.{◌≡◌, ℕ, Bool, true, false, cond, ◌||◌, List, [], refl, sym, ap, subst, inl, inr, ◌∙◌, Option, Some, None, IsTrue}
use Rattle.std.specs.Prelude.{option_map, if◌then◌else◌, ◌==◌}
use Rattle.std.proofs.lemmas.Bool.{eq-eqb, eqb-true}
use Rattle.smk_base.specs.Path.{own_folder, is_at_or_under}
use Rattle.smk_world.specs.declared.event.Node.{Node}
use Rattle.smk_world.specs.declared.event.NodeState.TheVariants.{Owned}
use Rattle.smk_world.specs.World.{World, Nodes, node_in, places_in, IsFormed, Leaves, MayLeave, reading, reads, is_within, add_names, firmly, world_of}
use Rattle.smk_world.specs.Calls.{owned_now}
use Rattle.smk_world.specs.Trees.{Path, IsIn, kind_in}
use Rattle.smk_world.proofs.Names.{adds_rising, not_added_any, reads_rising, reads_there, reads_may_stay, formed_image}
use Rattle.smk_record.specs.declared.record.Stamp.{Stamp}
use Rattle.smk_record.specs.declared.record.Record.{Record}
use Rattle.smk_record.specs.Records.{source_time, stamped, core}
use Rattle.smk_store.specs.Images.{Content, image_of, seen, stands, readable, source_at, record_at, core_at, is_whole, tree_now}
use Rattle.smk_store.specs.Trust.{Versions, none_eased}
use Rattle.smk_store.specs.Soundness.{Outside, Sound, SoundWorld, EachImage, SameSources, told}
use Rattle.smk_store.specs.Safety.{with_sources, or_put}
use Rattle.smk_laws_history.proofs.HistoryImages.{sound_from}
use Rattle.smk_laws_history.proofs.HistoryPlaces.{kept_same, marked_same, noted_same, node_same}

-- the touched places are firm with these nodes, and the others as they were
pub record Replaces (w w' : World) (touched : Path → Bool) (node : Path → Option Node) : Type 0 where
  pub formed : IsFormed w'
  pub children : w'.children ≡ w.children
  pub at : (q : Path) → touched q ≡ true → w'.nodes q ≡ firmly (node q)
  pub other : (q : Path) → touched q ≡ false → w'.nodes q ≡ w.nodes q
  pub own : (q : Path) → is_at_or_under q own_folder ≡ true → touched q ≡ false

-- ## The image before

-- what a crash leaves of the changed world, with the touched places as they read before
module _ (w w' : World) (touched : Path → Bool) (node : Path → Option Node) (formed : IsFormed w) (replaces : Replaces w w' touched node) (nodes : Nodes) (leaves : Leaves w' nodes) where
  abbrev node_before : Path → Option Node
  node_before q = if touched q then reading (w.nodes q) else node_in nodes q

  abbrev world_before : World
  world_before = record { names = add_names (places_in nodes) w.names; nodes = λ q. firmly (node_before q); children = []; log = [] }

  formed_before : IsFormed world_before
  formed_before =
      record {
        rising = adds_rising (places_in nodes) w.names formed.rising;
        complete = λ q h.
            let none = not_added_any q (places_in nodes) w.names h in
            choice (touched q) (reading (w.nodes q)) (node_in nodes q) (formed.complete q none.1) ((formed_image nodes leaves.rising).complete q none.0);
      }
    where
      choice : (b : Bool) (m n : Option Node) → m ≡ None → n ≡ None → (if b then m else n) ≡ None
      choice true m n h k = h
      choice false m n h k = k

  pub nodes_before : Nodes
  nodes_before = reads world_before

  at_before : (q : Path) → node_in nodes_before q ≡ node_before q
  unfolding nodes_before
  at_before q = reads_there world_before q formed_before

  pub leaves_before : Leaves w nodes_before
  unfolding nodes_before
  leaves_before = record { each = λ q. subst (λ n. MayLeave (w.nodes q) n) (sym (at_before q)) (each q); rising = reads_rising world_before formed_before }
    where
      by_touch : (q : Path) (b : Bool) → touched q ≡ b → MayLeave (w.nodes q) (if b then reading (w.nodes q) else node_in nodes q)
      by_touch q true e = subst (λ n. MayLeave (w.nodes q) n) (reads_there w q formed) ((reads_may_stay w formed).each q)
      by_touch q false e = subst (λ s. MayLeave s (node_in nodes q)) (replaces.other q e) (leaves.each q)

      each : (q : Path) → MayLeave (w.nodes q) (node_before q)
      each q = by_touch q (touched q) refl

  pub other_before : (q : Path) → touched q ≡ false → node_in nodes q ≡ node_in nodes_before q
  other_before q e = sym (at_before q ∙ ap (λ b. if b then reading (w.nodes q) else node_in nodes q) e)

  pub touched_after : (q : Path) → touched q ≡ true → node_in nodes q ≡ node q
  touched_after q e = firm_one (node_in nodes q) (subst (λ s. MayLeave s (node_in nodes q)) (replaces.at q e) (leaves.each q))
    where
      firm_one : (n : Option Node) → MayLeave (firmly (node q)) n → n ≡ node q
      firm_one n (inl e) = e
      firm_one n (inr e) = absurd e

-- ## Versions

none_some : {A : Type 0} (x : A) → None ≡ Some x → ⊥
none_some x h = cc

some_is : {A : Type 0} (x y : A) → Some x ≡ Some y → x ≡ y
some_is x y h = cc

put_same : (had : Option (List ℕ)) (t : ℕ) (f : Content) → (f.time ≡ t → had ≡ Some f.bytes) → or_put had t (Some f) ≡ had
put_same had t f h = go (f.time == t) refl
  where
    go : (b : Bool) → (f.time == t) ≡ b → cond b (Some f.bytes) had ≡ had
    go true e = sym (h (eqb-true f.time t e))
    go false e = refl

put_told : (had : Option (List ℕ)) (f : Content) (c : Option Content) → option_map told (Some f) ≡ option_map told c → or_put had f.time c ≡ Some f.bytes
put_told had f None e = absurd (none_some (told f) (sym e))
put_told had f (Some g) e =
    let both : told f ≡ told g = some_is (told f) (told g) e in
    let time : f.time ≡ g.time = ap (λ (x : List ℕ × ℕ). x.1) both in
    let bytes : f.bytes ≡ g.bytes = ap (λ (x : List ℕ × ℕ). x.0) both in
    ap (λ b. if b then Some g.bytes else had) (eq-eqb g.time f.time (sym time)) ∙ ap Some (sym bytes)

core_from : (k : Option Record) (r : Record) → option_map core k ≡ Some r → (s : Record) × (k ≡ Some s) × (core s ≡ r)
core_from None r h = absurd (none_some r h)
core_from (Some s) r h = (s, refl, some_is (core s) r h)

-- ## The change

never_owned : (n : Option Node) → firmly n ≡ Owned → ⊥
never_owned n h = cc

-- two worlds, of which the second has the touched places changed
pub record IsPair (v v' : World) (touched : Path → Bool) (node : Path → Option Node) : Type 0 where
  pub formed : IsFormed v
  pub formed' : IsFormed v'
  pub at : (q : Path) → touched q ≡ true → reading (v'.nodes q) ≡ node q
  pub other : (q : Path) → touched q ≡ false → reading (v'.nodes q) ≡ reading (v.nodes q)

-- What is asked of a change in one pair: which sources there are at touched places, and that what is whole after it was so before
-- and is the same.
pub record IsFit (read : List ℕ → Option Record) (v v' : World) (touched : Path → Bool) (there : Path → Option Content) : Type 0 where
  pub sources : (q : Path) → touched q ≡ true → source_at (seen read v') q ≡ there q
  pub whole :
      (d : Path) (r : Record) → core_at (seen read v) d ≡ Some r → (seen read v).marked d ≡ false → IsTrue (is_whole (seen read v') d (kind_in r.recipe d)) →
      IsTrue (is_whole (seen read v) d (kind_in r.recipe d)) × (tree_now (seen read v') d ≡ tree_now (seen read v) d)

module _ (o : Outside) (w w' : World) (H : Versions) (touched : Path → Bool) (node : Path → Option Node) (there : Path → Option Content)
    (sound : SoundWorld o w H) (replaces : Replaces w w' touched node) where
  abbrev next : Versions
  next = with_sources H (seen o.read w')

  module _ (v v' : World) (pair : IsPair v v' touched node) where
    own_same : (q : Path) → is_at_or_under q own_folder ≡ true → reading (v'.nodes q) ≡ reading (v.nodes q)
    own_same q h = pair.other q (replaces.own q h)

    pub kept_on : (seen o.read v).kept ≡ (seen o.read v').kept
    kept_on = kept_same o.read v v' own_same

    pub marked_on : (seen o.read v).marked ≡ (seen o.read v').marked
    marked_on = marked_same o.read v v' own_same

    noted_on : (seen o.read v).noted ≡ (seen o.read v').noted
    noted_on = noted_same o.read v v' own_same

    source_on : (q : Path) → touched q ≡ false → source_at (seen o.read v') q ≡ source_at (seen o.read v) q
    source_on q e =
        let n = node_same o.read v v' q (pair.other q e) in
        λ j. source_at (record (seen o.read v') { node = λ x. n j; kept = sym kept_on j; marked = sym marked_on j; noted = sym noted_on j }) q

  pub now_pair : IsPair w w' touched node
  now_pair =
      record {
        formed = sound.formed;
        formed' = replaces.formed;
        at = λ q e. ap reading (replaces.at q e);
        other = λ q e. ap reading (replaces.other q e);
      }

  module _ (nodes : Nodes) (leaves : Leaves w' nodes) where
    abbrev pub before : Nodes
    before = nodes_before w w' touched node sound.formed replaces nodes leaves

    pub image_pair : IsPair (world_of before) (world_of nodes) touched node
    image_pair =
        record {
          formed = formed_image before (leaves_before w w' touched node sound.formed replaces nodes leaves).rising;
          formed' = formed_image nodes leaves.rising;
          at = λ q e. touched_after w w' touched node sound.formed replaces nodes leaves q e;
          other = λ q e. other_before w w' touched node sound.formed replaces nodes leaves q e;
        }

  module _ (fit : IsFit o.read w w' touched there)
      (later :
      (p : Path) (r : Record) (q : Path) (s : Stamp) (f : Content) →
      core_at (seen o.read w) p ≡ Some r → IsIn (stamped r) (q, s) → source_time s ≡ Some f.time → touched q ≡ true → there q ≡ Some f → ⊥) where
    same_time :
        (p : Path) (r : Record) (q : Path) (s : Stamp) (t : ℕ) → core_at (seen o.read w) p ≡ Some r → IsIn (stamped r) (q, s) → source_time s ≡ Some t → next q t ≡ H q t
    same_time p r q s t at i time = go (touched q) refl
      where
        untouched : (c : Option Content) → source_at (seen o.read w) q ≡ c → or_put (H q t) t c ≡ H q t
        untouched None e = refl
        untouched (Some f) e = put_same (H q t) t f (λ s. ap (λ u. H q u) (sym s) ∙ sound.now.has_sources q f e)

        at_touched : touched q ≡ true → (c : Option Content) → there q ≡ c → or_put (H q t) t c ≡ H q t
        at_touched h None e = refl
        at_touched h (Some f) e = put_same (H q t) t f (λ same. absurd (later p r q s f at i (time ∙ ap (λ n. Some n) (sym same)) h e))

        go : (b : Bool) → touched q ≡ b → or_put (H q t) t (source_at (seen o.read w') q) ≡ H q t
        go true e = ap (or_put (H q t) t) (fit.sources q e) ∙ at_touched e (there q) refl
        go false e = ap (or_put (H q t) t) (source_on w w' now_pair q e) ∙ untouched (source_at (seen o.read w) q) refl

    module _ (v v' : World) (pair : IsPair v v' touched node) (fits : IsFit o.read v v' touched there) (sources : SameSources (seen o.read w') (seen o.read v'))
        (known : (p : Path) (r : Record) → core_at (seen o.read v) p ≡ Some r → (seen o.read v).marked p ≡ false → core_at (seen o.read w) p ≡ Some r) where
      sound_pair : Sound o.act H (seen o.read v) none_eased → Sound o.act next (seen o.read v') none_eased
      sound_pair s =
          sound_from o.act H next (seen o.read v) (seen o.read v') (kept_on v v' pair) (marked_on v v' pair) (noted_on v v' pair)
          (λ p r q s t at unmarked i time. same_time p r q s t (known p r at unmarked) i time) s
          (record {
            has_sources = λ q f e. put_told (H q f.time) f (source_at (seen o.read w') q) (ap (option_map told) (sym e) ∙ sources q);
            whole = fits.whole;
          })

    module _ (images : (nodes : Nodes) (leaves : Leaves w' nodes) → IsFit o.read (world_of (before nodes leaves)) (world_of nodes) touched there) where
      sources_after : EachImage o.read w' (SameSources (seen o.read w'))
      sources_after nodes leaves q = go (touched q) refl
        where
          go : (b : Bool) → touched q ≡ b → option_map told (source_at (image_of o.read nodes) q) ≡ option_map told (source_at (seen o.read w') q)
          go true e = ap (option_map told) ((images nodes leaves).sources q e ∙ sym (fit.sources q e))
          go false e =
              ap (option_map told) (source_on (world_of (before nodes leaves)) (world_of nodes) (image_pair nodes leaves) q e)
              ∙ sound.same_sources (before nodes leaves) (leaves_before w w' touched node sound.formed replaces nodes leaves) q
              ∙ ap (option_map told) (sym (source_on w w' now_pair q e))

      known_before : (nodes : Nodes) (leaves : Leaves w' nodes) (p : Path) (r : Record) →
          core_at (image_of o.read (before nodes leaves)) p ≡ Some r → (image_of o.read (before nodes leaves)).marked p ≡ false → core_at (seen o.read w) p ≡ Some r
      known_before nodes leaves p r at unmarked =
          let full = core_from (record_at (image_of o.read (before nodes leaves)) p) r at in
          ap (option_map core) (sound.no_new_record (before nodes leaves) (leaves_before w w' touched node sound.formed replaces nodes leaves) p full.0 full.1 unmarked) ∙ ap Some full.2

      owned : (q : Path) → w'.nodes q ≡ Owned → (b : Bool) → touched q ≡ b → is_within q (owned_now w'.children) ≡ true
      owned q is true e = absurd (never_owned (node q) (sym (replaces.at q e) ∙ is))
      owned q is false e = ap (λ cs. is_within q (owned_now cs)) replaces.children ∙ sound.owners q (sym (replaces.other q e) ∙ is)

      pub sound_change : SoundWorld o w' next
      sound_change =
          record {
            formed = replaces.formed;
            now = sound_pair w w' now_pair fit (λ q. refl) (λ p r at unmarked. at) sound.now;
            after_crash = λ nodes leaves.
                sound_pair (world_of (before nodes leaves)) (world_of nodes) (image_pair nodes leaves) (images nodes leaves) (sources_after nodes leaves) (known_before nodes leaves)
                (sound.after_crash (before nodes leaves) (leaves_before w w' touched node sound.formed replaces nodes leaves));
            same_sources = sources_after;
            no_new_record = λ nodes leaves p r at unmarked.
                let pair = image_pair nodes leaves in
                (λ j. readable (sym (kept_on w w' now_pair) j p))
                ∙ sound.no_new_record (before nodes leaves) (leaves_before w w' touched node sound.formed replaces nodes leaves) p r
                ((λ j. readable (kept_on (world_of (before nodes leaves)) (world_of nodes) pair j p)) ∙ at)
                ((λ j. marked_on (world_of (before nodes leaves)) (world_of nodes) pair j p) ∙ unmarked);
            known = λ nodes leaves p at.
                (λ j. stands (sym (kept_on w w' now_pair) j p) || sym (marked_on w w' now_pair) j p)
                ∙ sound.known (before nodes leaves) (leaves_before w w' touched node sound.formed replaces nodes leaves) p
                ((λ j. stands (kept_on (world_of (before nodes leaves)) (world_of nodes) (image_pair nodes leaves) j p)) ∙ at);
            no_child = replaces.children ∙ sound.no_child;
            owners = λ q is. owned q is (touched q) refl;
          }
