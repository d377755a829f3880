-- Ways along edges, and the classes that edges make.
use Rattle.std.specs.Prelude.{◌≡◌, ℕ, zero, suc, List, [], ◌∷◌, ◌++◌, Some, All, length, slice_get, take, drop, ◌<◌, ◌⊎◌, ◌↔◌, refl}
use Rattle.std.proofs.Common.{arith, sym, ◌∙◌, subst, inl, inr, get_or}
use Rattle.std.proofs.lemmas.List.{take_all, take-append-drop}
use Rattle.std.proofs.lemmas.List.Elements.{All-push, All-weaker, All-cons}
use Rattle.std.proofs.lemmas.Option.{slice_get_within, get_or_from_slice_get, slice_get-get_or}
use Rattle.grind_classes.specs.Classes.{IsIn, IsActive, AreTogether, IsPartition, AreMergedAt}
use Rattle.grind_congruence.specs.declared.edge.Edge.{Edge}
use Rattle.grind_congruence.specs.Edges.{Passes, Leads, Joins, AreClassesOf}

-- an item that stands in a list stands in a longer one
pub slice_get-more : {X : Type 0} (xs ys : List X) (k : ℕ) (x : X) → slice_get xs k ≡ Some x → slice_get (xs ++ ys) k ≡ Some x
slice_get-more [] ys k x e = absurd cc
slice_get-more (y ∷ xs) ys zero x e = e
slice_get-more (y ∷ xs) ys (suc k) x e = slice_get-more xs ys k x e

pub slice_get-last : {X : Type 0} (xs : List X) (x : X) → slice_get (xs ++ x ∷ []) (length xs) ≡ Some x
slice_get-last [] x = refl
slice_get-last (y ∷ xs) x = slice_get-last xs x

-- what holds of all items holds of one
pub All-at : {X : Type 0} (P : X → Type 0) (xs : List X) (k : ℕ) (x : X) → All P xs → slice_get xs k ≡ Some x → P x
All-at P xs k x all e =
    subst P (get_or_from_slice_get xs k x x e) (all k x (slice_get_within xs k x e))

-- a way along edges is one along more edges
pub Leads-more : (edges more : List Edge) (places : List ℕ) (a b : ℕ) → Leads edges places a b → Leads (edges ++ more) places a b
Leads-more edges more [] a b e = e
Leads-more edges more (place ∷ places) a b (edge, mid, stands, passes, rest) =
    (edge, mid, slice_get-more edges more place edge stands, passes, Leads-more edges more places mid b rest)

-- one way after another
pub Leads-append : (edges : List Edge) (first second : List ℕ) (a b d : ℕ) → Leads edges first a b → Leads edges second b d
    → Leads edges (first ++ second) a d
Leads-append edges [] second a b d e rest = subst (λ (x : ℕ). Leads edges second x d) (sym e) rest
Leads-append edges (place ∷ first) second a b d (edge, mid, stands, passes, more) rest =
    (edge, mid, stands, passes, Leads-append edges first second mid b d more rest)

pub Passes-swap : (edge : Edge) (a b : ℕ) → Passes edge a b → Passes edge b a
Passes-swap edge a b (inl is) = inr (is.1, is.0)
Passes-swap edge a b (inr is) = inl (is.1, is.0)

-- a way read from its end
pub Leads-back : (edges : List Edge) (places : List ℕ) (a b : ℕ) → Leads edges places a b → (back : List ℕ) × Leads edges back b a
Leads-back edges [] a b e = ([], sym e)
Leads-back edges (place ∷ places) a b (edge, mid, stands, passes, rest) =
    let back = Leads-back edges places mid b rest in
    (back.0 ++ place ∷ [], Leads-append edges back.0 (place ∷ []) b mid a back.1 (edge, a, stands, Passes-swap edge a mid passes, refl))

-- all edges lead where a way along them leads
pub Joins-all : (edges : List Edge) (a b : ℕ) → Joins edges (length edges) a b ↔ ((places : List ℕ) × Leads edges places a b)
Joins-all edges a b =
    let all : take (length edges) edges ≡ edges = take_all (length edges) edges (omega arith) in (
      λ way. (way.0, subst (λ (es : List Edge). Leads es way.0 a b) all way.1),
      λ way. (way.0, subst (λ (es : List Edge). Leads es way.0 a b) (sym all) way.1),
    )

-- being together is an equivalence
pub together-back : (lists : List (List ℕ)) (a b : ℕ) → AreTogether lists a b → AreTogether lists b a
together-back lists a b t = (t.0, t.2, t.1)

pub together-through : (lists : List (List ℕ)) (a b d : ℕ) → IsPartition lists → AreTogether lists a b → AreTogether lists b d
    → AreTogether lists a d
together-through lists a b d classes t u =
    (t.0, t.1, subst (λ (r : ℕ). IsIn lists r d) (classes.in_one u.0 t.0 b u.1 t.2) u.2)

pub together-itself : (lists : List (List ℕ)) (a : ℕ) → IsActive lists a → AreTogether lists a a
together-itself lists a active = (active.0, active.1, active.1)

pub active-left : (lists : List (List ℕ)) (a b : ℕ) → AreTogether lists a b → IsActive lists a
active-left lists a b t = (t.0, t.1)

pub active-right : (lists : List (List ℕ)) (a b : ℕ) → AreTogether lists a b → IsActive lists b
active-right lists a b t = (t.0, t.2)

-- the ends of each edge are together
abbrev pub HasEndsTogether : List (List ℕ) → Edge → Type 0
HasEndsTogether lists edge = AreTogether lists edge.left edge.right

pub ends_together : (lists : List (List ℕ)) (edges : List Edge) → AreClassesOf lists edges → All (HasEndsTogether lists) edges
ends_together lists edges tied k d below =
    let edge : Edge = get_or edges k d in
    let active = tied.ends k d below in
    let stands : slice_get edges k ≡ Some edge = slice_get-get_or edges k d below in
    let way : Leads edges (k ∷ []) edge.left edge.right = (edge, edge.right, stands, inl (refl, refl), refl) in
    (tied.led edge.left edge.right active.0 active.1).1 ((Joins-all edges edge.left edge.right).1 (k ∷ [], way))

-- what an edge passes between is together
pub passes_together : (lists : List (List ℕ)) (edge : Edge) (a b : ℕ) → HasEndsTogether lists edge → Passes edge a b → AreTogether lists a b
passes_together lists edge a b ends (inl is) =
    subst (λ (x : ℕ). AreTogether lists x b) is.0 (subst (λ (y : ℕ). AreTogether lists edge.left y) is.1 ends)
passes_together lists edge a b ends (inr is) =
    subst (λ (x : ℕ). AreTogether lists x b) is.0
    (subst (λ (y : ℕ). AreTogether lists edge.right y) is.1 (together-back lists edge.left edge.right ends))

-- where the ends of each edge are together, so are those of a way
pub Leads-together : (lists : List (List ℕ)) (edges : List Edge) (places : List ℕ) (a b : ℕ) → IsPartition lists
    → All (HasEndsTogether lists) edges → IsActive lists a → Leads edges places a b → AreTogether lists a b
Leads-together lists edges [] a b classes ends active e =
    subst (λ (x : ℕ). AreTogether lists a x) e (together-itself lists a active)
Leads-together lists edges (place ∷ places) a b classes ends active (edge, mid, stands, passes, rest) =
    let first : AreTogether lists a mid =
    passes_together lists edge a mid (All-at (HasEndsTogether lists) edges place edge ends stands) passes in
    together-through lists a mid b classes first
    (Leads-together lists edges places mid b classes ends (active-right lists a mid first) rest)

-- a node that becomes a class of its own changes nothing of what edges make
pub AreClassesOf-activate : (old new : List (List ℕ)) (edges : List Edge) (n : ℕ) → AreClassesOf old edges → IsPartition new
    → ((x : ℕ) → IsActive new x ↔ (IsActive old x ⊎ (x ≡ n)))
    → ((x y : ℕ) → AreTogether new x y ↔ (AreTogether old x y ⊎ ((x ≡ n) × (y ≡ n))))
    → AreClassesOf new edges
AreClassesOf-activate old new edges n tied classes active together = record {
  partition = classes;
  ends = λ k d below. let both = tied.ends k d below in ((active _).1 (inl both.0), (active _).1 (inl both.1));
  led = λ a b act_a act_b. (
    λ t. elim ((together a b).0 t) [
      | inl before ↦ (tied.led a b (active-left old a b before) (active-right old a b before)).0 before
      | inr own ↦ (Joins-all edges a b).1 ([], own.0 ∙ sym own.1)
    ],
    λ joins. let way = (Joins-all edges a b).0 joins in
        Leads-together new edges way.0 a b classes
        (All-weaker (HasEndsTogether old) (HasEndsTogether new) (λ edge t. (together edge.left edge.right).1 (inl t)) edges (ends_together old edges tied))
        act_a way.1,
  );
}

-- an edge that joins two classes makes the joined classes
pub AreClassesOf-merge : (old new : List (List ℕ)) (edges : List Edge) (edge : Edge) → AreClassesOf old edges → IsPartition new
    → IsActive old edge.left → IsActive old edge.right
    → ((x : ℕ) → IsActive new x ↔ IsActive old x)
    → ((x y : ℕ) → AreMergedAt old edge.left edge.right new x y)
    → AreClassesOf new (edges ++ edge ∷ [])
AreClassesOf-merge old new edges edge tied classes act_left act_right active together = record {
  partition = classes;
  ends = All-push (λ (e : Edge). IsActive new e.left × IsActive new e.right) edges edge
      (λ k d below. let both = tied.ends k d below in ((active _).1 both.0, (active _).1 both.1))
      ((active edge.left).1 act_left, (active edge.right).1 act_right);
  led = λ a b act_a act_b. (
    λ t. (Joins-all (edges ++ edge ∷ []) a b).1 (way a b ((together a b).0 t)),
    λ joins. let found = (Joins-all (edges ++ edge ∷ []) a b).0 joins in
        Leads-together new (edges ++ edge ∷ []) found.0 a b classes ends act_a found.1,
  );
}
  where
    old_way : (a b : ℕ) → AreTogether old a b → (places : List ℕ) × Leads (edges ++ edge ∷ []) places a b
    old_way a b t =
        let way = (Joins-all edges a b).0 ((tied.led a b (active-left old a b t) (active-right old a b t)).0 t) in
        (way.0, Leads-more edges (edge ∷ []) way.0 a b way.1)

    through : (a x y b : ℕ) → Passes edge x y → AreTogether old a x → AreTogether old y b
        → (places : List ℕ) × Leads (edges ++ edge ∷ []) places a b
    through a x y b passes t u =
        let first = old_way a x t in
        let second = old_way y b u in (
          first.0 ++ length edges ∷ second.0,
          Leads-append (edges ++ edge ∷ []) first.0 (length edges ∷ second.0) a x b first.1
              (edge, y, slice_get-last edges edge, passes, second.1),
        )

    way : (a b : ℕ)
        → (AreTogether old a b ⊎ ((AreTogether old a edge.left × AreTogether old edge.right b) ⊎ (AreTogether old a edge.right × AreTogether old edge.left b)))
        → (places : List ℕ) × Leads (edges ++ edge ∷ []) places a b
    way a b (inl t) = old_way a b t
    way a b (inr (inl both)) = through a edge.left edge.right b (inl (refl, refl)) both.0 both.1
    way a b (inr (inr both)) = through a edge.right edge.left b (inr (refl, refl)) both.0 both.1

    ends : All (HasEndsTogether new) (edges ++ edge ∷ [])
    ends = All-push (HasEndsTogether new) edges edge
        (All-weaker (HasEndsTogether old) (HasEndsTogether new) (λ e t. (together e.left e.right).1 (inl t)) edges (ends_together old edges tied))
        ((together edge.left edge.right).1 (inr (inl (together-itself old edge.left act_left, together-itself old edge.right act_right))))

-- what stands among the first items stands in the list
pub Leads-take : (edges : List Edge) (k : ℕ) (places : List ℕ) (a b : ℕ) → Leads (take k edges) places a b → Leads edges places a b
Leads-take edges k places a b leads =
    subst (λ (es : List Edge). Leads es places a b) (take-append-drop k edges)
    (Leads-more (take k edges) (drop k edges) places a b leads)

-- the places of a way are below the number of edges
pub Leads-below : (edges : List Edge) (places : List ℕ) (a b : ℕ) → Leads edges places a b → All (λ place. place < length edges) places
Leads-below edges [] a b e = λ k d below. absurd (omega arith)
Leads-below edges (place ∷ places) a b (edge, mid, stands, passes, rest) =
    All-cons (λ k. k < length edges) place places (slice_get_within edges place edge stands) (Leads-below edges places mid b rest)
