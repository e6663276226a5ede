-- A member put at a key, in the place of what was put there just before.
use Rattle.std.proofs.Common.{◌≡◌, ℕ, List, Ordering, Less, Equal, Greater, nat_cmp, refl, ap, ◌∙◌}
use Rattle.std.proofs.lemmas.Cmp.{nat_list_cmp_total, tied_itself}
use Rattle.std.specs.Cmp.Lexicographic.{slice_cmp}
use Rattle.std.specs.Ordering.{match_ordering}
use Rattle.serde_json.specs.Data.{Data, Members, no_members, member, put}

same_key : (k : List ℕ) → slice_cmp nat_cmp k k ≡ Equal
same_key k = tied_itself nat_list_cmp_total k

twice_at : (o : Ordering) (k l : List ℕ) (d n e : Data) (ms : Members) → slice_cmp nat_cmp k l ≡ o → put k d (put k n ms) ≡ put k d ms
    → put k d (match_ordering o (member k n (member l e ms)) (member l n ms) (member l e (put k n ms)))
    ≡ match_ordering o (member k d (member l e ms)) (member l d ms) (member l e (put k d ms))
twice_at Less k l d n e ms is later = rw same_key refl
twice_at Equal k l d n e ms is later = rw is refl
twice_at Greater k l d n e ms is later = rw is (ap (member l e) later)

pub put_twice : (k : List ℕ) (d n : Data) (ms : Members) → put k d (put k n ms) ≡ put k d ms
put_twice k d n no_members = rw same_key refl
put_twice k d n (member l e ms) = twice_at (slice_cmp nat_cmp k l) k l d n e ms refl (put_twice k d n ms)
