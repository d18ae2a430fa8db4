-- Runs that differ only in indexes, statement by statement.
use Rattle.std.proofs.Common.{◌≡◌, ◌∙◌, refl, sym, ap, ap₂, subst, ℕ, List, [], ◌∷◌, ◌++◌, map, Ok}
use Rattle.mob_value.specs.declared.value.Value.{Value}
use Rattle.mob_typed.{specs.Selects.{TypedSelectParts}, specs.Statements.{StatementOut, nothing, new_table, new_index, new_rows, rows_from, deletion, query, plan_of}}
use Rattle.mob_catalog.specs.Catalogue.{Catalogue, with_all_rows, with_deleted, with_row}
use Rattle.mob_join.{specs.Deleted.{first_rows}, specs.Query.{IsKept}}
use Rattle.mob_records.specs.AnswerText.{answer_text}
use Rattle.mob_tail.{specs.AnswerTexts.{answer_names}, specs.Outcomes.{HasOneQueryAnswer}}
use Rattle.mob_shell.{specs.Answers.{QueryAnswers}, specs.Deletes.{deleted_table}, specs.Runs.{RunState, RunsStatement, StatementLeaves, inserted_row, later_files, next_rows}}
use Rattle.mob_shell.specs.SameAnswers.{DifferInIndexes}
use Rattle.mob_laws.{specs.IndexScripts.{Answered, answer_in, unplaced_select, unplaced_statement, without_indexes}, proofs.Unplaced.{kept_alike}, proofs.UnplacedAnswers.{answers_alike, names_same}}
use Rattle.mob_meaning.specs.declared.terms.Terms.{Terms}

-- ---- the state of a run, without its indexes

abbrev bare_catalogue : Catalogue → Catalogue
bare_catalogue c = record c { indexed = []; index_names = [] }

abbrev bare_state : RunState → RunState
bare_state s = record s { catalogue = bare_catalogue s.catalogue }

differ : (c d : Catalogue) → bare_catalogue c ≡ bare_catalogue d → DifferInIndexes c d
differ c d same = record { store = ap (λ (b : Catalogue). b.store) same; heads = ap (λ (b : Catalogue). b.heads) same }

rows_bare : (n : ℕ) (rows : List (List Value)) (c : Catalogue) → bare_catalogue (with_all_rows n rows c) ≡ with_all_rows n rows (bare_catalogue c)
rows_bare n [] c = refl
rows_bare n (row ∷ rows) c = rows_bare n rows (with_row n row c)

-- ---- a statement, without its places and the indexes

-- some query that is equal except for places keeps these tuples on a catalogue that is equal except
-- for indexes
record SomeKept (terms : Terms) (bare : Catalogue) (q : TypedSelectParts) (kept : List (List ℕ)) : Type 0 where
  own : TypedSelectParts
  catalogue : Catalogue
  placed : unplaced_select own ≡ q
  indexed : bare_catalogue catalogue ≡ bare
  keeps : IsKept own catalogue terms (Ok kept)

-- and so it has the answer with these rows
record SomeAnswer (terms : Terms) (bare : Catalogue) (q : TypedSelectParts) (rows : List (List (List ℕ))) : Type 0 where
  own : TypedSelectParts
  catalogue : Catalogue
  placed : unplaced_select own ≡ q
  indexed : bare_catalogue catalogue ≡ bare
  answers : QueryAnswers own catalogue terms (Ok rows)

abbrev BareStep : Terms → RunState → StatementOut → RunState → List (List ℕ) → Type 0
BareStep terms s (deletion q) t answers = (kept : List (List ℕ)) × SomeKept terms s.catalogue q kept × (t ≡ record s { catalogue = with_deleted (deleted_table q) (first_rows kept) s.catalogue }) × (answers ≡ [])
BareStep terms s (query q) t answers = (rows : List (List (List ℕ))) × SomeAnswer terms s.catalogue q rows × (t ≡ s) × (answers ≡ answer_text (answer_names q) rows ∷ [])
BareStep terms s (new_index n c name) t answers = (t ≡ s) × (answers ≡ [])
BareStep terms s x t answers = StatementLeaves terms s x t × (answers ≡ [])

abbrev with_catalogue : RunState → Catalogue → RunState
with_catalogue s c = record s { catalogue = c }

step_bare : (terms : Terms) (s : RunState) (x : StatementOut) (t : RunState) (text : List ℕ) → RunsStatement terms s x t text → BareStep terms (bare_state s) (unplaced_statement x) (bare_state t) (answer_in x text)
step_bare terms s nothing t text h = (ap bare_state h.leaves, refl)
step_bare terms s (new_table n name columns) t text h = (ap bare_state h.leaves, refl)
step_bare terms s (new_index n c name) t text h = (ap bare_state h.leaves, refl)
step_bare terms s (new_rows n rows places) t text h =
    let values : List (List Value) = map (inserted_row s.catalogue.store.consts) rows in
    (ap bare_state h.leaves ∙ ap (with_catalogue (bare_state s)) (rows_bare n values s.catalogue), refl)
step_bare terms s (rows_from n name) t text h = (ap bare_state h.leaves ∙ ap (λ (c : Catalogue). record s { catalogue = c; files = later_files s.files }) (rows_bare n (next_rows s.files) s.catalogue), refl)
step_bare terms s (deletion q) t text h =
    let d = h.leaves.1 in (
      d.0,
      record { own = q; catalogue = s.catalogue; placed = refl; indexed = refl; keeps = d.1 },
      ap bare_state h.leaves.2 ∙ ap (λ (c : Catalogue). with_catalogue (bare_state s) (bare_catalogue c)) d.2,
      refl,
    )
step_bare terms s (query q) t text h = (
  h.writes.0,
  record { own = q; catalogue = s.catalogue; placed = refl; indexed = refl; answers = h.writes.1 },
  ap bare_state h.leaves,
  ap (λ (a : List ℕ). a ∷ []) (h.writes.2 ∙ ap (λ (names : List (List ℕ)). answer_text names h.writes.0) (names_same q.items)),
)
step_bare terms s (plan_of q) t text h = (ap bare_state h.leaves, refl)

-- ---- runs

abbrev BareRun : Terms → RunState → List StatementOut → List (List ℕ) → Type 0
BareRun terms s [] answers = answers ≡ []
BareRun terms s (x ∷ xs) answers = (t : RunState) × (here : List (List ℕ)) × (rest : List (List ℕ)) × BareStep terms s x t here × BareRun terms t xs rest × (answers ≡ here ++ rest)

-- a statement that changes only indexes in a run, and has no answer
passed : (terms : Terms) (s t : RunState) (xs : List StatementOut) (rest answers : List (List ℕ)) → bare_state t ≡ bare_state s → answers ≡ rest → BareRun terms (bare_state t) xs rest → BareRun terms (bare_state s) xs answers
passed terms s t xs rest answers left is h = subst (λ (u : RunState). BareRun terms u xs answers) left (subst (BareRun terms (bare_state t) xs) (sym is) h)

run_bare : (terms : Terms) (xs : List StatementOut) (s : RunState) (answers : List (List ℕ)) → Answered terms s xs answers → BareRun terms (bare_state s) (without_indexes xs) answers
run_bare terms [] s answers h = h
run_bare terms (nothing ∷ xs) s answers h = passed terms s h.0 (without_indexes xs) h.2 answers (ap bare_state h.3.leaves) h.5 (run_bare terms xs h.0 h.2 h.4)
run_bare terms (new_index n c name ∷ xs) s answers h = passed terms s h.0 (without_indexes xs) h.2 answers (ap bare_state h.3.leaves) h.5 (run_bare terms xs h.0 h.2 h.4)
run_bare terms (x ∷ xs) s answers h = (bare_state h.0, answer_in x h.1, h.2, step_bare terms s x h.0 h.1 h.3, run_bare terms xs h.0 h.2 h.4, h.5)

module _ (one : HasOneQueryAnswer) (terms : Terms) where
  one_kept : (bare : Catalogue) (q : TypedSelectParts) (kept others : List (List ℕ)) → SomeKept terms bare q kept → SomeKept terms bare q others → kept ≡ others
  one_kept bare q kept others h k = kept_alike terms h.own k.own h.catalogue k.catalogue kept others (h.placed ∙ sym k.placed) (differ h.catalogue k.catalogue (h.indexed ∙ sym k.indexed)) h.keeps k.keeps

  one_answer : (bare : Catalogue) (q : TypedSelectParts) (rows others : List (List (List ℕ))) → SomeAnswer terms bare q rows → SomeAnswer terms bare q others → rows ≡ others
  one_answer bare q rows others h k = answers_alike one terms h.own k.own h.catalogue k.catalogue rows others (h.placed ∙ sym k.placed) (differ h.catalogue k.catalogue (h.indexed ∙ sym k.indexed)) h.answers k.answers

  one_step : (s : RunState) (x : StatementOut) (t u : RunState) (a b : List (List ℕ)) → BareStep terms s x t a → BareStep terms s x u b → (t ≡ u) × (a ≡ b)
  one_step s (deletion q) t u a b h k =
      let kept : h.0 ≡ k.0 = one_kept s.catalogue q h.0 k.0 h.1 k.1 in
      (h.2 ∙ ap (λ (ks : List (List ℕ)). with_catalogue s (with_deleted (deleted_table q) (first_rows ks) s.catalogue)) kept ∙ sym k.2, h.3 ∙ sym k.3)
  one_step s (query q) t u a b h k =
      let rows : h.0 ≡ k.0 = one_answer s.catalogue q h.0 k.0 h.1 k.1 in
      (h.2 ∙ sym k.2, h.3 ∙ ap (λ (rs : List (List (List ℕ))). answer_text (answer_names q) rs ∷ []) rows ∙ sym k.3)
  one_step s _ t u a b h k = (h.0 ∙ sym k.0, h.1 ∙ sym k.1)

  one_run : (xs : List StatementOut) (s : RunState) (a b : List (List ℕ)) → BareRun terms s xs a → BareRun terms s xs b → a ≡ b
  one_run [] s a b h k = h ∙ sym k
  one_run (x ∷ xs) s a b h k =
      let first = one_step s x h.0 k.0 h.1 k.1 h.3 k.3 in
      let rest = one_run xs k.0 h.2 k.2 (subst (λ (t : RunState). BareRun terms t xs h.2) first.0 h.4) k.4 in
      h.5 ∙ ap₂ (λ (c d : List (List ℕ)). c ++ d) first.1 rest ∙ sym k.5

  -- runs of statements that differ only in CREATE INDEX have the same answers
  pub answered_alike : (xs ys : List StatementOut) (s : RunState) (a b : List (List ℕ)) → without_indexes xs ≡ without_indexes ys → Answered terms s xs a → Answered terms s ys b → a ≡ b
  answered_alike xs ys s a b same h k =
      let other : BareRun terms (bare_state s) (without_indexes xs) b = subst (λ (zs : List StatementOut). BareRun terms (bare_state s) zs b) (sym same) (run_bare terms ys s b k) in
      one_run (without_indexes xs) (bare_state s) a b (run_bare terms xs s a h) other
