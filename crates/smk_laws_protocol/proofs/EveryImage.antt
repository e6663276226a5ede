-- What holds of every image of a list of nodes holds of every image of a function, and the other way round.
use Rattle.std.proofs.Common.{◌≡◌, ℕ, Bool, true, false, List, [], refl, sym, ap, subst, ◌∙◌, Option, Some, None}
use Rattle.std.specs.Prelude.{IsSome}
use Rattle.smk_world.specs.declared.event.Node.{Node}
use Rattle.smk_world.specs.World.{World, IsFormed, IsRising, MayLeave, Nodes as NodeList, node_in, places_in, firmly, world_of, reads as read_list}
use Rattle.smk_world.specs.Trees.{Path}
use Rattle.smk_world.proofs.Names.{formed_image, reads_there, reads_rising}
use Rattle.smk_record.specs.declared.record.Record.{Record}
use Rattle.smk_store.specs.Soundness.{EachImage as EachList}
use Rattle.smk_laws_protocol.proofs.View.{View, view}
use Rattle.smk_laws_protocol.proofs.Views.{Nodes, EachImage, HasNames, view_of}
use Rattle.smk_laws_protocol.proofs.Basics.{clash}
use Rattle.smk_laws_protocol.proofs.Bridge.{view_is}
use Rattle.smk_laws_protocol.proofs.Formed.{all_named}
use Rattle.smk_laws_protocol.proofs.Naming.{NamesLaws}
use Rattle.smk_laws_protocol.proofs.ViewLaws.{naming_laws}

list_named : (nodes : NodeList) → IsRising (places_in nodes) → HasNames (places_in nodes) (node_in nodes)
list_named nodes rising = all_named (world_of nodes) (formed_image nodes rising)

-- ---- a function with finitely many names as a list

module _ (names : List Path) (f : Nodes) (rising : IsRising names) (complete : HasNames names f) where
  -- a world that reads so
  abbrev whole : World
  whole = record { names = names; nodes = λ q. firmly (f q); children = []; log = [] }

  whole_formed : IsFormed whole
  whole_formed = record { rising = rising; complete = λ q h. none (f q) (complete q) h }
    where
      none : (n : Option Node) → {b : Bool} → (IsSome n → b ≡ true) → b ≡ false → n ≡ None
      none None k h = refl
      none (Some n) k h = clash _ (k refl) h

  abbrev listed : NodeList
  listed = read_list whole

  pub listed_at : (q : Path) → node_in listed q ≡ f q
  listed_at q = reads_there whole q whole_formed

  pub listed_rising : IsRising (places_in listed)
  listed_rising = reads_rising whole whole_formed

module _ (read : List ℕ → Option Record) (w : World) where
  abbrev naming : NamesLaws read
  naming = naming_laws read

  pub to_lists : IsFormed w → (P : View → Type 0) → EachImage read w P → EachList read w (λ i. P (view i))
  to_lists formed P each nodes leaves =
      let here = list_named nodes leaves.rising in
      let names = naming.both (places_in nodes) w.names in
      let complete : HasNames names (node_in nodes) = λ q h. naming.left (places_in nodes) w.names q (here q h) in
      let rising : IsRising names = naming.rising (places_in nodes) w.names leaves.rising formed.rising in
      subst P
      (naming.same names (places_in nodes) (node_in nodes) rising leaves.rising complete here ∙ sym (view_is read (places_in nodes) (node_in nodes)))
      (each names (node_in nodes) rising complete (λ q h. naming.right (places_in nodes) w.names q (all_named w formed q h)) leaves.each)

  pub from_lists : (P : View → Type 0) → EachList read w (λ i. P (view i)) → EachImage read w P
  from_lists P each names f rising complete covered leaves =
      let nodes = listed names f rising complete in
      let same : node_in nodes ≡ f = λ k q. listed_at names f rising complete q k in
      let rises = listed_rising names f rising complete in
      subst P
      (view_is read (places_in nodes) (node_in nodes) ∙ ap (view_of read (places_in nodes)) same
      ∙ naming.same (places_in nodes) names f rises rising (λ q h. list_named nodes rises q (subst (λ (n : Option Node). IsSome n) (sym (listed_at names f rising complete q)) h)) complete)
      (each nodes (record { each = λ q. subst (MayLeave (w.nodes q)) (sym (listed_at names f rising complete q)) (leaves q); rising = rises }))
