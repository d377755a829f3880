-- What settles a node, in other words.
use Rattle.std.specs.Prelude.{◌≡◌, ◌⊎◌, ℕ, ◌+◌, ◌<◌, List, [], ◌∷◌, Option, Some, None, All, Contains, length, slice_get, pos, ◌≤ℤ◌, refl}
use Rattle.std.proofs.Common.{arith, sym, ap, subst, ◌∙◌, inl, inr}
use Rattle.std.proofs.lemmas.Option.{same_Some}
use Rattle.std.proofs.lemmas.List.Elements.{All-nil, All-cons, Contains-push}
use Rattle.grind_term_graph.specs.declared.head.Head.TheVariants as heads
use Rattle.grind_term_graph.specs.declared.node.Node.{Node}
use Rattle.grind_term_rules.specs.TermRules.{IsEquation}
use Rattle.grind_linear_forms.specs.Forms.{FormData, number_form}
use Rattle.grind_arithmetic_rules.specs.LinearRules.{IsRead, IsWrite, IsApart}
use Rattle.grind_claims.specs.declared.claim.Claim.{Claim}
use Rattle.grind_claims.specs.declared.claim.Claim.TheVariants.{Holds, Fails, Differ, AtMost}
use Rattle.grind_claims.specs.declared.proof.Rule.{Rule}
use Rattle.grind_claims.specs.declared.proof.Rule.TheVariants.{Read, Write, Apart}
use Rattle.grind_cutsat_facts.specs.declared.facts.Fact.{Fact}
use Rattle.grind_cutsat_facts.specs.Facts.{IsSaid, Stands}
use Rattle.grind_cutsat_assignment.specs.Given.{Given, Fits}
use Rattle.grind_cutsat_units.specs.declared.types.Planned.{Planned}
use Rattle.grind_cutsat_units.specs.declared.types.Draft.{Draft}
use Rattle.grind_cutsat_units.specs.Posts.{planned, AllStand, NoCase, HasCase, IsFound, AtSomeFact, Rest}
use Rattle.grind_cutsat_units.specs.Settled.{IsUnknown, IsLiteralOf, SettlesByFact, SettlesByReading, PartsByFact, PartsByReading, Settles}
use Rattle.grind_cutsat_units.proofs.NamingLemmas.{some_and, is_at}
use Rattle.grind_cutsat_units.proofs.ReadingLemmas.{comparison_posts}
use Rattle.grind_cutsat_terms.specs.Settling.{IsIntEquation, WriteGives, ReadingGives, read_posts, LiteralGives, ApartGives, ApartAlone, SidesGive, NodeParts, NodeGives, SettlesNode}

module _ (it : Given) (n : ℕ) (posts : List Planned) (unknown : IsUnknown it n) where
  literal_there : (literal : Claim) → IsLiteralOf n literal → LiteralGives it.nodes it.facts literal posts → Settles it posts
  literal_there literal of gives = elim gives [
    | inl fact ↦
        let write = fact.1.2 in
        inl (inl (n, literal, fact.0, write.0, unknown, of, subst (IsSaid it.facts fact.0) write.1 fact.1.1, write.2, write.3))
    | inr read ↦ inl (inr (n, literal, read.0, unknown, of, read.1, read.2, read.3, read.4))
  ]

  parts_there : NodeParts it.nodes it.facts n posts → Settles it posts
  parts_there parts = elim parts.3 [
    | inl fact ↦
        let apart = fact.1.2 in
        inr (inl (
          n,
          parts.0,
          parts.1,
          fact.0,
          apart.0,
          unknown,
          parts.2.0,
          parts.2.1,
          subst (IsSaid it.facts fact.0) apart.1 fact.1.1,
          apart.2,
          apart.3,
        ))
    | inr alone ↦ inr (inr (n, parts.0, parts.1, unknown, parts.2.0, parts.2.1, alone.0, alone.1))
  ]

  pub settle_there : NodeGives it.nodes it.facts n posts → Settles it posts
  settle_there gives = elim gives [
    | inl holds ↦ literal_there (Holds n) (inl refl) holds
    | inr more ↦ elim more [
      | inl fails ↦ literal_there (Fails n) (inr refl) fails
      | inr parts ↦ parts_there parts
    ]
  ]

module _ (it : Given) (posts : List Planned) where
  abbrev Back : Type 0
  Back = (n : ℕ) × SettlesNode it n posts

  literal_back : (n : ℕ) (literal : Claim) → IsUnknown it n → IsLiteralOf n literal → LiteralGives it.nodes it.facts literal posts → Back
  literal_back n literal unknown of gives = elim of [
    | inl holds ↦ (n, (unknown, inl (subst (λ (claim : Claim). LiteralGives it.nodes it.facts claim posts) holds gives)))
    | inr fails ↦ (n, (unknown, inr (inl (subst (λ (claim : Claim). LiteralGives it.nodes it.facts claim posts) fails gives))))
  ]

  pub settle_back : Settles it posts → Back
  settle_back case = elim case [
    | inl comparison ↦ elim comparison [
      | inl fact ↦ literal_back fact.0 fact.1 fact.4 fact.5
          (inl (fact.2, (AtMost fact.3, fact.6, (fact.3, refl, fact.7, fact.8))))
      | inr read ↦ literal_back read.0 read.1 read.3 read.4 (inr (read.2, read.5, read.6, read.7, read.8))
    ]
    | inr equation ↦ elim equation [
      | inl fact ↦ (
        fact.0,
        (
          fact.5,
          inr (inr (
            fact.1,
            fact.2,
            (fact.6, fact.7),
            inl (fact.3, (AtMost fact.4, fact.8, (fact.4, refl, fact.9, fact.10))),
          )),
        ),
      )
      | inr alone ↦ (alone.0, (alone.3, inr (inr (alone.1, alone.2, (alone.4, alone.5), inr (alone.6, alone.7)))))
    ]
  ]

-- where no node is settled, none is
pub none_settles : (it : Given) → Fits it → ((n : ℕ) → n < length it.nodes → NoCase it.facts (SettlesNode it n))
    → NoCase it.facts (Settles it)
none_settles it fits none posts case =
    let back = settle_back it posts case in
    none back.0 (fits.within back.0 back.1.0.active) posts back.1

pub has_settled : (it : Given) (next n : ℕ) (drafts : List Draft) → HasCase it.facts next (SettlesNode it n) drafts
    → HasCase it.facts next (Settles it) drafts
has_settled it next n drafts h = (h.0, settle_there it n h.0 h.1.0 h.1.1, h.2)

-- ---- one claim

abbrev form_in : Claim → FormData
form_in (AtMost form) = form
form_in _ = number_form (pos 0)

-- a post rests on the one claim that stands
pub rests_on : (facts : List Fact) (claim bound : Claim) (rule : Rule) → Stands facts bound → Rest facts [] (planned claim rule (bound ∷ []) ∷ [])
rests_on facts claim bound rule stands = (
  All-cons (λ (premise : Claim). Stands facts premise ⊎ Contains [] premise) bound [] (inl stands)
      (All-nil (λ (premise : Claim). Stands facts premise ⊎ Contains [] premise)),
  tt,
)

-- or on nothing
pub rests_on_nothing : (facts : List Fact) (claim : Claim) (rule : Rule) → Rest facts [] (planned claim rule [] ∷ [])
rests_on_nothing facts claim rule = (All-nil (λ (premise : Claim). Stands facts premise ⊎ Contains [] premise), tt)

-- the literal rests on the bound before it
pub read_rests : (facts : List Fact) (literal : Claim) (form : FormData) → Rest facts [] (read_posts literal form)
read_rests facts literal form = (
  All-nil (λ (premise : Claim). Stands facts premise ⊎ Contains [] premise),
  (
    All-cons (λ (premise : Claim). Stands facts premise ⊎ Contains (AtMost form ∷ []) premise) (AtMost form) []
        (inr (Contains-push [] (AtMost form)))
        (All-nil (λ (premise : Claim). Stands facts premise ⊎ Contains (AtMost form ∷ []) premise)),
    tt,
  ),
)

module _ (nodes : List Node) (claim : Claim) (form : FormData) (is : claim ≡ AtMost form) where
  module _ (literal : Claim) where
    same_write : (posts : List Planned) (gives : WriteGives nodes literal claim posts) → gives.0 ≡ form
    same_write posts gives = ap form_in (sym gives.1 ∙ is)

    pub unless_written : (IsWrite nodes (claim ∷ []) literal → ⊥) → (posts : List Planned) → ¬ WriteGives nodes literal claim posts
    unless_written none posts = λ gives. none (subst (λ (it : Claim). IsWrite nodes (it ∷ []) literal) (sym gives.1) gives.2)

    pub write_case : IsWrite nodes (claim ∷ []) literal → WriteGives nodes literal claim (planned literal Write (AtMost form ∷ []) ∷ [])
    write_case write = (form, is, subst (λ (it : Claim). IsWrite nodes (it ∷ []) literal) is write, refl)

    pub write_once : (posts : List Planned) → WriteGives nodes literal claim posts → posts ≡ planned literal Write (AtMost form ∷ []) ∷ []
    write_once posts gives = gives.3 ∙ ap (λ (it : FormData). planned literal Write (AtMost it ∷ []) ∷ []) (same_write posts gives)

  module _ (a b : ℕ) where
    same_apart : (posts : List Planned) (gives : ApartGives nodes a b claim posts) → gives.0 ≡ form
    same_apart posts gives = ap form_in (sym gives.1 ∙ is)

    pub unless_apart : (IsApart nodes (claim ∷ []) (Differ a b) → ⊥) → (posts : List Planned) → ¬ ApartGives nodes a b claim posts
    unless_apart none posts = λ gives. none (subst (λ (it : Claim). IsApart nodes (it ∷ []) (Differ a b)) (sym gives.1) gives.2)

    pub apart_case : IsApart nodes (claim ∷ []) (Differ a b) → ApartGives nodes a b claim (planned (Differ a b) Apart (AtMost form ∷ []) ∷ [])
    apart_case apart = (form, is, subst (λ (it : Claim). IsApart nodes (it ∷ []) (Differ a b)) is apart, refl)

    pub apart_once : (posts : List Planned) → ApartGives nodes a b claim posts → posts ≡ planned (Differ a b) Apart (AtMost form ∷ []) ∷ []
    apart_once posts gives = gives.3 ∙ ap (λ (it : FormData). planned (Differ a b) Apart (AtMost it ∷ []) ∷ []) (same_apart posts gives)

-- ---- the readings alone

abbrev claim_form : List Planned → FormData
claim_form [] = number_form (pos 0)
claim_form (it ∷ rest) = form_in it.claim

-- a literal is read by one form
read_form_once : (nodes : List Node) (literal : Claim) (one other : FormData) → IsRead nodes (literal ∷ []) (AtMost one)
    → IsRead nodes (literal ∷ []) (AtMost other) → other ≡ one
read_form_once nodes literal one other first second =
    ap claim_form (comparison_posts nodes literal one (planned (AtMost other) Read (literal ∷ []) ∷ []) first (other, second, refl))

module _ (nodes : List Node) (literal : Claim) (form : FormData) (read : IsRead nodes (literal ∷ []) (AtMost form)) where
  pub unless_low : ((form.parts ≡ []) × (form.constant ≤ℤ pos 0) → ⊥) → (posts : List Planned) → ¬ ReadingGives nodes literal posts
  unless_low high posts = λ gives.
      let same = read_form_once nodes literal form gives.0 read gives.1 in
      high (subst (λ (it : FormData). it.parts ≡ []) same gives.2, subst (λ (it : FormData). it.constant ≤ℤ pos 0) same gives.3)

  pub reading_case : (form.parts ≡ []) × (form.constant ≤ℤ pos 0) → ReadingGives nodes literal (read_posts literal form)
  reading_case low = (form, read, low.0, low.1, refl)

  pub reading_once : (posts : List Planned) → ReadingGives nodes literal posts → posts ≡ read_posts literal form
  reading_once posts gives = gives.4 ∙ ap (λ (it : FormData). read_posts literal it) (read_form_once nodes literal form gives.0 read gives.1)

-- ---- equations kept apart by their readings

pub alone_case : (nodes : List Node) (a b : ℕ) → IsApart nodes [] (Differ a b) → ApartAlone nodes a b (planned (Differ a b) Apart [] ∷ [])
alone_case nodes a b apart = (apart, refl)

pub alone_once : (nodes : List Node) (a b : ℕ) (posts : List Planned) → ApartAlone nodes a b posts → posts ≡ planned (Differ a b) Apart [] ∷ []
alone_once nodes a b posts gives = gives.1

-- ---- the sides of a node

-- an equation has one first side and one second
equation_once : (nodes : List Node) (n a b c d : ℕ) → IsEquation nodes n a b → IsEquation nodes n c d → (a ≡ c) × (b ≡ d)
equation_once nodes n a b c d one other =
    let found = some_and (slice_get nodes n) (is_at heads.Eq (a ∷ b ∷ [])) one in
    let also = some_and (slice_get nodes n) (is_at heads.Eq (c ∷ d ∷ [])) other in
    let same : found.0 ≡ also.0 = same_Some found.0 also.0 (sym found.1 ∙ also.1) in
    two_parts a b c d (sym found.2.1 ∙ ap (λ (it : Node). it.args) same ∙ also.2.1)
  where
    two_parts : (a b c d : ℕ) → a ∷ b ∷ [] ≡ c ∷ d ∷ [] → (a ≡ c) × (b ≡ d)
    two_parts a b c d e = (cc, cc)

-- what the sides give, the node gives
pub found_of_sides : (nodes : List Node) (facts : List Fact) (n a b : ℕ) (is : IsIntEquation nodes n a b) (next : ℕ)
    (found : Option (List Draft)) → IsFound facts next (SidesGive nodes facts a b) found → IsFound facts next (NodeParts nodes facts n) found
found_of_sides nodes facts n a b is next None none = λ posts gives.
    let same = equation_once nodes n gives.0 gives.1 a b gives.2.0 is.0 in
    none posts (subst (λ k. SidesGive nodes facts a k posts) same.1 (subst (λ k. SidesGive nodes facts k gives.1 posts) same.0 gives.3))
found_of_sides nodes facts n a b is next (Some drafts) h = (h.0, (a, b, is, h.1), h.2)

-- ---- one kind of case, and then another
module _ (facts : List Fact) (next : ℕ) (A B : List Planned → Type 0) where
  pub second_found : NoCase facts A → (found : Option (List Draft)) → IsFound facts next B found
      → IsFound facts next (λ posts. A posts ⊎ B posts) found
  second_found other None none = λ posts case. elim case [ inl one ↦ other posts one | inr two ↦ none posts two ]
  second_found other (Some drafts) h = (h.0, inr h.1, h.2)

-- what a node gives, it gives as an unknown one
pub unknown_found : (it : Given) (next n : ℕ) → IsUnknown it n → (found : Option (List Draft))
    → IsFound it.facts next (NodeGives it.nodes it.facts n) found → IsFound it.facts next (SettlesNode it n) found
unknown_found it next n unknown None none = λ posts case. none posts case.1
unknown_found it next n unknown (Some drafts) h = (h.0, (unknown, h.1), h.2)
