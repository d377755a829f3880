-- Reports that are written block by block.
use Rattle.std.proofs.Common.{◌≡◌, ◌↔◌, ◌<◌, ◌^◌, ◌&&◌, ℕ, Bool, true, IsTrue, List, [], ◌∷◌, ◌++◌, length, flat_map, Option, refl, ap, sym, subst, ◌∙◌, append_assoc, append-nil, inl, inr, arith}
use Rattle.std.proofs.lemmas.Bool.{and_parts}
use Rattle.std.proofs.lemmas.Grind.{flat_map-append}
use Rattle.grind_outside.specs.Outside.{appended, IsFront}
use Rattle.grind_schemes.specs.Goals.{GoalData}
use Rattle.grind_schemes.specs.declared.lemmas.Lemmas.{Lemmas}
use Rattle.grind_signature.specs.Signatures.{SignatureData}
use Rattle.std.proofs.lemmas.List.Elements.{All-from_recursion}
use Rattle.grind_report.specs.Report.{Block, BlockFits, block_bytes, header_bytes, end_bytes}
use Rattle.grind_answers.specs.Answers.{AreClosed, AnswersGoal, AnswersAll, WritesReport, WritesPart}
use Rattle.grind_answers.specs.Written.{AwaitsGoals, WritesBlock, WritesBlocks, WritesSomeBlocks, WritesFront, BeginsBlock}
use Rattle.grind_report.proofs.ReportParts.{report_of_parts}
use Rattle.grind_command.proofs.NotesLemmas.{appended-append, appended-nil}

both_true : (a b : Bool) → a ≡ true → b ≡ true → (a && b) ≡ true
both_true a b p q = rw (p, q) refl

module _ (signature : SignatureData) (lemmas : Lemmas) where
  -- no block was written for no goal
  WritesBlocks-nil : (old : Option (List ℕ)) → WritesBlocks signature lemmas [] old old []
  WritesBlocks-nil old = record { answers = tt; fits = tt; written = sym (appended-nil old) }

  WritesBlocks-cons : (goal : GoalData) (goals : List GoalData) (old mid new : Option (List ℕ)) (closed : Bool) (block : Block) (blocks : List Block)
      → WritesBlock signature lemmas goal old mid closed block → WritesBlocks signature lemmas goals mid new blocks
      → WritesBlocks signature lemmas (goal ∷ goals) old new (block ∷ blocks)
  WritesBlocks-cons goal goals old mid new closed block blocks b bs =
      record {
        answers = (b.answers, bs.answers);
        fits = (b.fits, bs.fits);
        written = bs.written ∙ ap (λ o. appended o (flat_map block_bytes blocks)) b.written ∙ appended-append old (block_bytes block) (flat_map block_bytes blocks);
      }

  WritesSomeBlocks-cons : (goal : GoalData) (goals : List GoalData) (old mid new : Option (List ℕ)) (closed : Bool) (block : Block)
      → WritesBlock signature lemmas goal old mid closed block → WritesSomeBlocks signature lemmas goals mid new
      → WritesSomeBlocks signature lemmas (goal ∷ goals) old new
  WritesSomeBlocks-cons goal goals old mid new closed block b (piece, written, (done, next, rest, blocks, front, begun)) = (
    block_bytes block ++ piece,
    written ∙ ap (λ o. appended o piece) b.written ∙ appended-append old (block_bytes block) piece,
    (
      goal ∷ done,
      next,
      rest,
      block ∷ blocks,
      front,
      record {
        goals_are = ap (λ gs. goal ∷ gs) begun.goals_are;
        answers = (b.answers, begun.answers);
        fits = (b.fits, begun.fits);
        piece_is = ap (λ p. block_bytes block ++ p) begun.piece_is ∙ sym (append_assoc (block_bytes block) (flat_map block_bytes blocks) front);
        next = begun.next;
      },
    ),
  )

  WritesSomeBlocks-first : (goal : GoalData) (goals : List GoalData) (old new : Option (List ℕ))
      → BeginsBlock signature lemmas goal old new → WritesSomeBlocks signature lemmas (goal ∷ goals) old new
  WritesSomeBlocks-first goal goals old new begins = (
    begins.0,
    begins.1,
    ([], goal, goals, [], begins.0, record { goals_are = refl; answers = tt; fits = tt; piece_is = refl; next = begins.2 }),
  )

  -- there are as many blocks as goals
  length_all_answers : (goals : List GoalData) (blocks : List Block) → AnswersAll signature lemmas goals blocks → length goals ≡ length blocks
  length_all_answers [] [] a = refl
  length_all_answers [] (b ∷ bs) a = absurd a
  length_all_answers (g ∷ gs) [] a = absurd a
  length_all_answers (g ∷ gs) (b ∷ bs) a = let e = length_all_answers gs bs a.1 in omega arith

  -- one more block answers one more goal
  AnswersAll-more : (done : List GoalData) (blocks : List Block) (goal : GoalData) (block : Block) → AnswersAll signature lemmas done blocks
      → AnswersGoal signature lemmas goal block → AnswersAll signature lemmas (done ++ goal ∷ []) (blocks ++ block ∷ [])
  AnswersAll-more [] [] goal block all this = (this, tt)
  AnswersAll-more [] (b ∷ bs) goal block all this = absurd all
  AnswersAll-more (g ∷ gs) [] goal block all this = absurd all
  AnswersAll-more (g ∷ gs) (b ∷ bs) goal block all this = (all.0, AnswersAll-more gs bs goal block all.1 this)

  -- the bytes of one more block
  blocks-more : (blocks : List Block) (block : Block) → flat_map block_bytes blocks ++ block_bytes block ≡ flat_map block_bytes (blocks ++ block ∷ [])
  blocks-more blocks block =
      sym (flat_map-append block_bytes blocks (block ∷ []) ∙ ap (λ l. flat_map block_bytes blocks ++ l) (append-nil (block_bytes block)))

  -- the header was written, and every goal is still to come
  pub AwaitsGoals-all : (goals : List GoalData) (old now : Option (List ℕ)) → now ≡ appended old header_bytes → AwaitsGoals signature lemmas goals goals now
  AwaitsGoals-all goals old now header =
      ([], old, [], record { goals_are = refl; answers = tt; written = header ∙ ap (λ l. appended old l) (sym (append-nil header_bytes)) })

  -- the next goal's block was written
  pub AwaitsGoals-next : (goals : List GoalData) (goal : GoalData) (rest : List GoalData) (now next : Option (List ℕ)) (closed : Bool) (block : Block)
      → AwaitsGoals signature lemmas goals (goal ∷ rest) now → WritesBlock signature lemmas goal now next closed block → AwaitsGoals signature lemmas goals rest next
  AwaitsGoals-next goals goal rest now next closed block (done, before, blocks, far) b =
      let body = flat_map block_bytes blocks in (
        done ++ goal ∷ [],
        before,
        blocks ++ block ∷ [],
        record {
          goals_are = far.goals_are ∙ sym (append_assoc done (goal ∷ []) rest);
          answers = AnswersAll-more done blocks goal block far.answers b.answers;
          written = b.written ∙ ap (λ o. appended o (block_bytes block)) far.written ∙ appended-append before (header_bytes ++ body) (block_bytes block)
              ∙ ap (λ l. appended before l) (append_assoc header_bytes body (block_bytes block) ∙ ap (λ l. header_bytes ++ l) (blocks-more blocks block));
        },
      )

  -- blocks stand there for the goals before the rest: what is written for the rest completes them
  pub record IsOnTheWay (goals : List GoalData) (old : Option (List ℕ)) (rest : List GoalData) (now : Option (List ℕ)) (closed : Bool) : Type 0 where
    pub whole : (new : Option (List ℕ)) (blocks : List Block) → WritesBlocks signature lemmas rest now new blocks
        → (all : List Block) × WritesBlocks signature lemmas goals old new all × (AreClosed all ↔ (IsTrue closed × AreClosed blocks))
    pub part : (new : Option (List ℕ)) → WritesSomeBlocks signature lemmas rest now new → WritesSomeBlocks signature lemmas goals old new

  pub on_the_way-start : (goals : List GoalData) (old : Option (List ℕ)) → IsOnTheWay goals old goals old true
  on_the_way-start goals old = record {
    whole = λ new blocks w. (blocks, w, (λ closed. (refl, closed), λ both. both.1));
    part = λ new w. w;
  }

  pub on_the_way-step : (goals : List GoalData) (old : Option (List ℕ)) (goal : GoalData) (rest : List GoalData) (now next : Option (List ℕ)) (closed this : Bool) (block : Block)
      → WritesBlock signature lemmas goal now next this block → IsOnTheWay goals old (goal ∷ rest) now closed → IsOnTheWay goals old rest next (closed && this)
  on_the_way-step goals old goal rest now next closed this block b way = record {
    whole = λ new blocks w.
        let found = way.whole new (block ∷ blocks) (WritesBlocks-cons goal rest now next new this block blocks b w) in (
          found.0,
          found.1,
          (
            λ all. let parts = found.2.0 all in (both_true closed this parts.0 (b.closed_is.1 parts.1.0), parts.1.1),
            λ both. let parts = and_parts closed this both.0 in found.2.1 (parts.0, (b.closed_is.0 parts.1, both.1)),
          ),
        );
    part = λ new w. way.part new (WritesSomeBlocks-cons goal rest now next new this block b w);
  }

  pub on_the_way-end : (goals : List GoalData) (old now : Option (List ℕ)) (closed : Bool) → IsOnTheWay goals old [] now closed
      → (all : List Block) × WritesBlocks signature lemmas goals old now all × (IsTrue closed ↔ AreClosed all)
  on_the_way-end goals old now closed way =
      let found = way.whole now [] (WritesBlocks-nil now) in
      (found.0, found.1, (λ yes. found.2.1 (yes, tt), λ all. (found.2.0 all).0))

  pub on_the_way-stop : (goals : List GoalData) (old : Option (List ℕ)) (goal : GoalData) (rest : List GoalData) (now new : Option (List ℕ)) (closed : Bool)
      → IsOnTheWay goals old (goal ∷ rest) now closed → BeginsBlock signature lemmas goal now new → WritesSomeBlocks signature lemmas goals old new
  on_the_way-stop goals old goal rest now new closed way begins = way.part new (WritesSomeBlocks-first goal rest now new begins)

  -- some first bytes of the header were written
  pub WritesPart-header : (goals : List GoalData) (old new : Option (List ℕ)) → WritesFront old new header_bytes → WritesPart signature lemmas goals old new
  WritesPart-header goals old new (front, is_front, written) = (front, written, inl is_front)

  -- the header was written, and then some first bytes of the blocks
  pub WritesPart-blocks : (goals : List GoalData) (old mid new : Option (List ℕ)) → mid ≡ appended old header_bytes → WritesSomeBlocks signature lemmas goals mid new → WritesPart signature lemmas goals old new
  WritesPart-blocks goals old mid new header (piece, written, part) =
      (header_bytes ++ piece, written ∙ ap (λ o. appended o piece) header ∙ appended-append old header_bytes piece, inr (piece, refl, inl part))

  -- the header was written, then the blocks, and then some first bytes of the end line
  pub WritesPart-end : (goals : List GoalData) (old mid end new : Option (List ℕ)) (blocks : List Block) → mid ≡ appended old header_bytes → WritesBlocks signature lemmas goals mid end blocks → WritesFront end new (end_bytes (length goals)) → WritesPart signature lemmas goals old new
  WritesPart-end goals old mid end new blocks header w (front, is_front, written) =
      let body = flat_map block_bytes blocks in (
        header_bytes ++ (body ++ front),
        written ∙ ap (λ o. appended o front) (w.written ∙ ap (λ o. appended o body) header ∙ appended-append old header_bytes body)
            ∙ appended-append old (header_bytes ++ body) front ∙ ap (λ l. appended old l) (append_assoc header_bytes body front),
        inr (
          body ++ front,
          refl,
          inr (
            blocks,
            front,
            record {
              answers = w.answers;
              fits = w.fits;
              piece_is = refl;
              next = subst (λ (n : ℕ). IsFront front (end_bytes n)) (length_all_answers goals blocks w.answers) is_front;
            },
          ),
        ),
      )

  -- all of it was written
  pub WritesReport-whole : (goals : List GoalData) (old mid end new : Option (List ℕ)) (blocks : List Block) → length goals < 2 ^ 32 → mid ≡ appended old header_bytes → WritesBlocks signature lemmas goals mid end blocks → new ≡ appended end (end_bytes (length goals))
      → WritesReport signature lemmas goals old new (header_bytes ++ (flat_map block_bytes blocks ++ end_bytes (length blocks))) (record { blocks = blocks })
  WritesReport-whole goals old mid end new blocks few header w last =
      let body = flat_map block_bytes blocks in
      let count : length goals ≡ length blocks = length_all_answers goals blocks w.answers in
      let short : length blocks < 2 ^ 32 = omega arith in
      record {
        written = last ∙ ap (λ n. appended end (end_bytes n)) count ∙ ap (λ o. appended o (end_bytes (length blocks))) (w.written ∙ ap (λ o. appended o body) header ∙ appended-append old header_bytes body)
            ∙ appended-append old (header_bytes ++ body) (end_bytes (length blocks)) ∙ ap (λ l. appended old l) (append_assoc header_bytes body (end_bytes (length blocks)));
        spelled = report_of_parts blocks (All-from_recursion BlockFits blocks w.fits) short;
        answers = w.answers;
      }
