-- Lines that are written and noted.
use Rattle.std.specs.Prelude.{◌≡◌, ℕ, ◌+◌, ◌≤◌, List, [], ◌∷◌, ◌++◌, Option, Some, All, Contains, length, slice_get, refl}
use Rattle.std.specs.Option.{IsSomeAnd}
use Rattle.std.proofs.Common.{arith, sym, ap, ◌∙◌, subst, inl, inr, append_assoc, length-append}
use Rattle.std.proofs.lemmas.List.{append-nil}
use Rattle.std.proofs.lemmas.List.Elements.{All-nil, All-cons, All-head, All-tail, All-append, All-weaker}
use Rattle.grind_schemes.specs.Goals.{GoalData}
use Rattle.grind_schemes.specs.declared.lemmas.Lemmas.{Lemmas}
use Rattle.grind_claims.specs.declared.claim.Claim.TheVariants.{Same}
use Rattle.grind_claims.specs.declared.proof.Line.{Line}
use Rattle.grind_claims.specs.declared.proof.Proof.{Proof}
use Rattle.grind_proof_writer.specs.Lines.{Tells, Appends, EndsWith}
use Rattle.grind_proof_writer.proofs.ListLemmas.{behind_first}
use Rattle.grind_proof_writer.proofs.LineLemmas.{Tells-stays, Tells-last}
use Rattle.grind_needed_edges.specs.declared.pairs.Pair.{Pair}
use Rattle.grind_explain.specs.Explained.{DifferInClaims, IsLineAmong, IsBrief}
use Rattle.grind_needed_edges.specs.Numbered.{pair_of, HasNumber, HasNoNumber, IsNoted}
use Rattle.grind_explain.specs.Deriving.{AreLines, IsFresh, Goes}
use Rattle.grind_needed_edges.proofs.PairLemmas.{KeepsNumbers-put, KeepsNumbers-noted, last_entry, entry_cases}

-- nothing written
pub Goes-none : {Q : ℕ → ℕ → Type 0} (proof : Proof) (told : List (Pair × ℕ)) → Goes Q proof told proof told
Goes-none {Q = Q} proof told = record {
  keeps = λ pair n has. has;
  lines = [];
  after = sym (append-nil proof.lines);
  fresh = All-nil (IsFresh Q told told);
  differ = tt;
}

-- a line of before is noted
pub Goes-noted : {Q : ℕ → ℕ → Type 0} (proof : Proof) (told later : List (Pair × ℕ)) (a b n : ℕ) → IsNoted told a b n later → Goes Q proof told proof later
Goes-noted {Q = Q} proof told later a b n noted = record {
  keeps = KeepsNumbers-noted told later a b n noted;
  lines = [];
  after = sym (append-nil proof.lines);
  fresh = All-nil (IsFresh Q told later);
  differ = tt;
}

first_same : (a b c d : ℕ) → Same a b ≡ Same c d → a ≡ c
first_same a b c d e = cc

second_same : (a b c d : ℕ) → Same a b ≡ Same c d → b ≡ d
second_same a b c d e = cc

-- a line for which nothing was noted yet claims something else than one that was
differs : {Q : ℕ → ℕ → Type 0} (told between later : List (Pair × ℕ)) (line other : Line) → IsFresh Q told between line → IsFresh Q between later other →
    ¬ (other.claim ≡ line.claim)
differs told between later line other first second same =
    let claims : Same first.0 first.1 ≡ Same second.0 second.1 = sym first.2 ∙ sym same ∙ second.2 in
    let left : first.0 ≡ second.0 = first_same first.0 first.1 second.0 second.1 claims in
    let right : first.1 ≡ second.1 = second_same first.0 first.1 second.0 second.1 claims in
    let has : HasNumber between second.0 second.1 =
    subst (λ (x : ℕ). HasNumber between x second.1) left (subst (λ (y : ℕ). HasNumber between first.0 y) right first.4) in
    second.3 has.0 has.1

differ_append : {Q : ℕ → ℕ → Type 0} (told between later : List (Pair × ℕ)) (one two : List Line) → All (IsFresh Q told between) one → All (IsFresh Q between later) two →
    DifferInClaims one → DifferInClaims two → DifferInClaims (one ++ two)
differ_append told between later [] two fresh more differ others = others
differ_append {Q = Q} told between later (line ∷ one) two fresh more differ others =
    let P : Line → Type 0 = λ other. ¬ (other.claim ≡ line.claim) in
    let here : IsFresh Q told between line = All-head (IsFresh Q told between) line one fresh in (
      All-append P one two differ.0 (All-weaker (IsFresh Q between later) P (λ other new. differs told between later line other here new) two more),
      differ_append told between later one two (All-tail (IsFresh Q told between) line one fresh) more differ.1 others,
    )

-- more written after what was written
pub Goes-through : {Q : ℕ → ℕ → Type 0} (old mid new : Proof) (told between later : List (Pair × ℕ)) → Goes Q old told mid between → Goes Q mid between new later →
    Goes Q old told new later
Goes-through {Q = Q} old mid new told between later first second =
    let one : List Line = first.lines in
    let two : List Line = second.lines in
    record {
      keeps = λ pair n has. second.keeps pair n (first.keeps pair n has);
      lines = one ++ two;
      after = second.after ∙ ap (λ (lines : List Line). lines ++ two) first.after ∙ append_assoc old.lines one two;
      fresh = All-append (IsFresh Q told later) one two
          (All-weaker (IsFresh Q told between) (IsFresh Q told later)
          (λ line h. (h.0, h.1, h.2, h.3, (h.4.0, second.keeps (pair_of h.0 h.1) h.4.0 h.4.1), h.5)) one first.fresh)
          (All-weaker (IsFresh Q between later) (IsFresh Q told later)
          (λ line h. (h.0, h.1, h.2, (λ n has. h.3 n (first.keeps (pair_of h.0 h.1) n has)), h.4, h.5)) two second.fresh);
      differ = differ_append told between later one two first.fresh second.fresh first.differ second.differ;
    }

-- what is among certain equalities is among more
pub Goes-weaker : {P Q : ℕ → ℕ → Type 0} (old new : Proof) (told later : List (Pair × ℕ)) → ((x y : ℕ) → P x y → Q x y) → Goes P old told new later →
    Goes Q old told new later
Goes-weaker {P = P} {Q = Q} old new told later weaker goes = record {
  keeps = goes.keeps;
  lines = goes.lines;
  after = goes.after;
  fresh = All-weaker (IsFresh P told later) (IsFresh Q told later) (λ line h. (h.0, h.1, h.2, h.3, h.4, weaker h.0 h.1 h.5)) goes.lines goes.fresh;
  differ = goes.differ;
}

some_at : {X : Type 0} (P : X → Type 0) (found : Option X) (x : X) → found ≡ Some x → IsSomeAnd found P → P x
some_at {X = X} P found x is h = subst (λ (o : Option X). IsSomeAnd o P) is h

one_line : (P : Line → Type 0) (olds more : List Line) → length (olds ++ more) ≡ length olds + 1 →
    IsSomeAnd (slice_get (olds ++ more) (length olds)) P → (line : Line) × (more ≡ line ∷ []) × P line
one_line P olds [] e h = let n = length-append olds [] in absurd (omega (arith, n, e))
one_line P olds (line ∷ []) e h = (line, refl, some_at P (slice_get (olds ++ line ∷ []) (length olds)) line (behind_first olds [] line) h)
one_line P olds (line ∷ other ∷ more) e h = let n = length-append olds (line ∷ other ∷ more) in absurd (omega (arith, n, e))

-- a line is written, and is noted for its pair
pub Goes-line : {Q : ℕ → ℕ → Type 0} (lemmas : Lemmas) (goal : GoalData) (old new : Proof) (branch : ℕ) (told later : List (Pair × ℕ)) (a b number : ℕ) →
    Appends lemmas goal old new branch → number ≡ length old.lines → EndsWith new branch number (Same a b) → HasNoNumber told a b →
    later ≡ told ++ (pair_of a b, number) ∷ [] → Q a b → Goes Q old told new later
Goes-line {Q = Q} lemmas goal old new branch told later a b number grown is ends none noted among =
    let more : List Line = grown.lines.0 in
    let P : Line → Type 0 = λ it. (it.branch ≡ branch) × (it.claim ≡ Same a b) in
    let count : length (old.lines ++ more) ≡ length old.lines + 1 = ap length (sym grown.lines.1) ∙ ends.0 ∙ ap (λ n. n + 1) is in
    let last : IsSomeAnd (slice_get (old.lines ++ more) (length old.lines)) P =
    subst (λ (n : ℕ). IsSomeAnd (slice_get (old.lines ++ more) n) P) is
    (subst (λ (lines : List Line). IsSomeAnd (slice_get lines number) P) grown.lines.1 ends.1) in
    let it = one_line P old.lines more count last in
    let has : HasNumber later a b =
    (number, subst (λ (es : List (Pair × ℕ)). Contains es (pair_of a b, number)) (sym noted) (last_entry told (pair_of a b, number))) in
    record {
      keeps = KeepsNumbers-put told later (pair_of a b, number) noted;
      lines = it.0 ∷ [];
      after = grown.lines.1 ∙ ap (λ (lines : List Line). old.lines ++ lines) it.1;
      fresh = All-cons (IsFresh Q told later) it.0 [] (a, b, it.2.1, none, has, among) (All-nil (IsFresh Q told later));
      differ = (All-nil (λ (other : Line). ¬ (other.claim ≡ it.0.claim)), tt);
    }

-- what is noted still tells
pub AreLines-stays : (lemmas : Lemmas) (goal : GoalData) (old new : Proof) (branch : ℕ) (told : List (Pair × ℕ)) →
    Appends lemmas goal old new branch → AreLines old branch told → AreLines new branch told
AreLines-stays lemmas goal old new branch told grown h a b n has = Tells-stays lemmas goal old new branch n (Same a b) grown (h a b n has)

-- one more is noted
pub AreLines-put : (proof : Proof) (branch : ℕ) (told later : List (Pair × ℕ)) (a b number : ℕ) → AreLines proof branch told →
    Tells proof branch number (Same a b) → later ≡ told ++ (pair_of a b, number) ∷ [] → AreLines proof branch later
AreLines-put proof branch told later a b number h tells noted c d n has =
    elim (entry_cases told (pair_of a b, number) (pair_of c d, n) (subst (λ (es : List (Pair × ℕ)). Contains es (pair_of c d, n)) noted has)) [
      | inl before ↦ h c d n before
      | inr here ↦
          let left : a ≡ c = ap (λ (e : Pair × ℕ). e.0.left) here in
          let right : b ≡ d = ap (λ (e : Pair × ℕ). e.0.right) here in
          let index : number ≡ n = ap (λ (e : Pair × ℕ). e.1) here in
          subst (λ (k : ℕ). Tells proof branch k (Same c d)) index
          (subst (λ (y : ℕ). Tells proof branch number (Same c y)) right (subst (λ (x : ℕ). Tells proof branch number (Same x b)) left tells))
    ]

pub AreLines-noted : (proof : Proof) (branch : ℕ) (told later : List (Pair × ℕ)) (a b number : ℕ) → AreLines proof branch told →
    Tells proof branch number (Same a b) → IsNoted told a b number later → AreLines proof branch later
AreLines-noted proof branch told later a b number h tells (inl same) =
    subst (λ (es : List (Pair × ℕ)). AreLines proof branch es) (sym same.0) h
AreLines-noted proof branch told later a b number h tells (inr put) = AreLines-put proof branch told later a b number h tells put.1

-- the same for a line that was just written
pub AreLines-line : (lemmas : Lemmas) (goal : GoalData) (old new : Proof) (branch : ℕ) (told later : List (Pair × ℕ)) (a b number : ℕ) →
    Appends lemmas goal old new branch → EndsWith new branch number (Same a b) → AreLines old branch told →
    later ≡ told ++ (pair_of a b, number) ∷ [] → AreLines new branch later
AreLines-line lemmas goal old new branch told later a b number grown ends h noted =
    AreLines-put new branch told later a b number (AreLines-stays lemmas goal old new branch told grown h)
    (Tells-last new branch number (Same a b) ends) noted

-- an explanation with its last lines
pub IsBrief-ends : {Q : ℕ → ℕ → Type 0} (lemmas : Lemmas) (goal : GoalData) (old mid new : Proof) (branch : ℕ) (told later : List (Pair × ℕ)) →
    Goes Q old told mid later → Appends lemmas goal mid new branch → length new.lines ≤ length mid.lines + 2 → IsBrief Q old new
IsBrief-ends {Q = Q} lemmas goal old mid new branch told later goes grown short =
    let more : List Line = grown.lines.0 in
    let count : length new.lines ≡ length mid.lines + length more = ap length grown.lines.1 ∙ length-append mid.lines more in
    record {
      lines = goes.lines;
      last = more;
      after = grown.lines.1 ∙ ap (λ (lines : List Line). lines ++ more) goes.after ∙ append_assoc old.lines goes.lines more;
      among = All-weaker (IsFresh Q told later) (IsLineAmong Q) (λ line h. (h.0, h.1, h.2, h.5)) goes.lines goes.fresh;
      differ = goes.differ;
      short = omega (arith, count, short);
    }

-- the same among more equalities
pub IsBrief-weaker : {P Q : ℕ → ℕ → Type 0} (old new : Proof) → ((a b : ℕ) → P a b → Q a b) → IsBrief P old new → IsBrief Q old new
IsBrief-weaker {P = P} {Q = Q} old new weaker brief = record {
  lines = brief.lines;
  last = brief.last;
  after = brief.after;
  among = All-weaker (IsLineAmong P) (IsLineAmong Q) (λ line h. (h.0, h.1, h.2, weaker h.0 h.1 h.3)) brief.lines brief.among;
  differ = brief.differ;
  short = brief.short;
}
