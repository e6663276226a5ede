-- What a stamp of a source tells.
use Rattle.std.specs.Prelude.{◌≡◌, ℕ, true, Some}
use Rattle.smk_world.specs.Trees.{Path, Act, IsIn}
use Rattle.smk_record.specs.declared.record.Stamp.{Stamp}
use Rattle.smk_record.specs.declared.record.Record.{Record}
use Rattle.smk_record.specs.Records.{agree, is_of_source, source_time, stamped}
use Rattle.smk_store.specs.Images.{Content, Image, source_at}
use Rattle.smk_store.specs.Trust.{Clear, Versions, SumsDiffer, content_stamp, none_eased, stamp_now}
use Rattle.smk_store.specs.Soundness.{Sound}

-- In a sound image a path whose stamp now is a source's is a source with this stamp, and the versions have its bytes at its time.
abbrev pub StampTells : Type 0
StampTells =
    (act : Act) (H : Versions) (image : Image) →
    Sound act H image none_eased →
    (p : Path) (s : Stamp) →
    stamp_now image p ≡ Some s →
    is_of_source s ≡ true → (f : Content) × (source_at image p ≡ Some f) × (s ≡ content_stamp f) × (H p f.time ≡ Some f.bytes)

-- Where an unmarked record tells of a source by a stamp that agrees with the source's stamp now, the source had the bytes of now at the
-- recorded time, be that time the same or not, if no two different contents have the same SHA-256.
abbrev pub AgreeingTells : Type 0
AgreeingTells =
    (act : Act) (H : Versions) (image : Image) →
    SumsDiffer H →
    Sound act H image none_eased →
    (p : Path) (r : Record) (q : Path) (s : Stamp) (f : Content) →
    Clear image none_eased p r →
    IsIn (stamped r) (q, s) →
    source_at image q ≡ Some f →
    agree s (content_stamp f) ≡ true → (t : ℕ) × (source_time s ≡ Some t) × (H q t ≡ Some f.bytes)
