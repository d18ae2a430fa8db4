-- The text of records reads back as these records.
use Rattle.std.{specs.Prelude.{◌≡◌, ℕ, List, [], ◌∷◌, ◌++◌, false, map, Some, None, refl}, specs.List.{concat, AllByRecursion}, proofs.Common.{ap, sym, ◌∙◌}}
use Rattle.csv.{specs.Machine.{next_record}, specs.Reading.{Reached, default_config}, specs.Writing.{read_back}, proofs.RoundTrip.{read-write}}
use Rattle.mob_records.{specs.AnswerText.{record_line}, specs.ReadAgain.{HasFields, ReadsAgain}, proofs.RecordText.{record_text-csv}}
use Rattle.csv.specs.declared.parser.State.TheVariants as st

same_back : (r : List (List ℕ)) → HasFields r → read_back r ≡ r
same_back [] h = absurd h
same_back (x ∷ r) h = refl

one_read : (r : List (List ℕ)) (tail : List ℕ) → next_record default_config st.StartRecord [] [] (record_line r ++ tail) ≡ Some (read_back r, st.StartRecord, tail)
one_read r tail = ap (λ z. next_record default_config st.StartRecord [] [] (z ++ tail)) (record_text-csv false r) ∙ read-write r tail

all_read : (rows : List (List (List ℕ))) → AllByRecursion HasFields rows → Reached default_config st.StartRecord (concat (map record_line rows)) rows st.StartRecord []
unfolding Reached
all_read [] h = (refl, refl)
all_read (r ∷ rows) h = ((read_back r, st.StartRecord, concat (map record_line rows)), one_read r (concat (map record_line rows)), sym (same_back r h.0), all_read rows h.1)

at_end : next_record default_config st.StartRecord [] [] [] ≡ None
unfolding next_record
at_end = refl

pub reads_again : ReadsAgain
reads_again rows h = (st.StartRecord, [], all_read rows h, at_end)
