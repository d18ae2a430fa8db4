-- A record, written field by field.
use Rattle.std.{specs.Io.KnownBytes.{Appends}, specs.declared.vec.Vec.{Vec}}
use Rattle.std.proofs.Common.{◌≡◌, ◌≢◌, ◌∙◌, ◌==◌, ◌<◌, ◌+◌, ◌-◌, ◌^◌, ◌++◌, ◌∷◌, [], ℕ, List, Option, Some, false, true, not, length, min, refl, sym, subst, length-append, arith}
use Rattle.csv.{specs.declared.writer.Writer.{Writer}, specs.Writing.{field_text, fields_written, has_written, is_blank, next_sep, tail_text, text_written, writer_setup}}
use Rattle.csv.proofs.WriteFacts.{appends-more, appends-none, blank-more, row-final, row-more}
use Rattle.mob_records.{specs.AnswerText.{record_line}, specs.Writers.{any_length, IsBetweenRecords, IsWithinRecord}, proofs.RecordText.{record_text-csv}}
use Rattle.csv.specs.declared.writer.QuoteStyle.TheVariants as style

module _ {A : Type 0} where
  abbrev pub held : Writer (Vec ℕ A) → Option (List ℕ)
  held w = text_written (λ v. Some v.items) w

  pub none_written : (writer : Writer (Vec ℕ A)) → IsBetweenRecords writer → IsWithinRecord (held writer) [] writer
  unfolding is_blank
  none_written writer between = record {
    setup = between.setup;
    count = between.fields;
    text = appends-none (held writer);
    blank = rw between.fresh refl;
  }

  module _ (before : Option (List ℕ)) (fields : List (List ℕ)) (old new : Writer (Vec ℕ A)) (so_far : IsWithinRecord before fields old) where
    plain : (writer_setup old).style ≢ style.NonNumeric
    plain = rw so_far.setup (λ e. cc e)

    pub one_more : (field : List ℕ) → length fields < 2 ^ 64 - 1
        → ((writer_setup old).style ≢ style.NonNumeric → Appends (held old) (held new) (next_sep (writer_setup old) (fields_written old) ++ field_text (writer_setup old) field))
        → writer_setup new ≡ writer_setup old
        → fields_written new ≡ min (fields_written old + 1) (2 ^ 64 - 1)
        → (has_written old ≡ false → (writer_setup old).style ≢ style.NonNumeric → has_written new ≡ not (length (field_text (writer_setup old) field) == 0))
        → (has_written old ≡ true → has_written new ≡ true)
        → IsWithinRecord before (fields ++ field ∷ []) new
    one_more field few text same count wrote stays =
        let more = length-append fields (field ∷ []) in
        let next = rw (so_far.setup, so_far.count) at (text plain) in
        record {
          setup = same ∙ so_far.setup;
          count = count ∙ rw so_far.count (omega (arith, more));
          text = subst (Appends before (held new)) (sym (row-more any_length fields field)) (appends-more before (held old) (held new) _ _ so_far.text next);
          blank = rw more (blank-more any_length fields field (has_written old) (has_written new) so_far.blank (λ w. rw so_far.setup at (wrote w plain)) stays);
        }

    pub all_written : Appends (held old) (held new) (tail_text (writer_setup old) (has_written old) (fields_written old)) → Appends before (held new) (record_line fields)
    all_written tail =
        let end = rw (so_far.setup, so_far.count) at tail in
        subst (Appends before (held new)) (sym (record_text-csv true fields)) (row-final before (held old) (held new) any_length fields (has_written old) (length fields) so_far.text so_far.blank end)
