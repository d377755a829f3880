-- Lines after their indices, one more at a time.
use Rattle.std.proofs.Common.{◌≡◌, ℕ, ◌+◌, ◌<◌, List, [], ◌∷◌, ◌++◌, length, take, get_or, map, decimal, refl, sym, ap, ◌∙◌, append_assoc, arith}
use Rattle.std.specs.Prelude.{codes}
use Rattle.std.proofs.lemmas.List.{take_more, append-nil, length-take, length-map}
use Rattle.std.proofs.lemmas.Grind.{flat_map-append}
use Rattle.grind_schemes.specs.declared.goal.Constant.{Constant}
use Rattle.grind_claims.specs.declared.proof.Proof.{Proof}
use Rattle.grind_signature.specs.Signatures.{SignatureData}
use Rattle.grind_report.specs.Naming.{term_of, node_words, raw_of}
use Rattle.grind_report.specs.Report.{Closed, indexed_lines, counted_lines, line_bytes, spelled, term_words, branch_words, line_words, block_bytes}

indexed_lines-push : {A : Type 0} (words : A → List (List ℕ)) (index : ℕ) (items : List A) (item : A) → indexed_lines words index (items ++ item ∷ []) ≡ indexed_lines words index items ++ (decimal (index + length items) ∷ words item) ∷ []
indexed_lines-push words index [] item = let e : index ≡ index + 0 = omega arith in ap (λ k. (decimal k ∷ words item) ∷ []) e
indexed_lines-push words index (x ∷ items) item =
    let e : index + 1 + length items ≡ index + length (x ∷ items) = omega arith in
    ap (λ rest. (decimal index ∷ words x) ∷ rest) (indexed_lines-push words (index + 1) items item ∙ ap (λ k. indexed_lines words (index + 1) items ++ (decimal k ∷ words item) ∷ []) e)

spelled-push : (page : List (List (List ℕ))) (line : List (List ℕ)) → spelled (page ++ line ∷ []) ≡ spelled page ++ line_bytes line
spelled-push page line = flat_map-append line_bytes page (line ∷ []) ∙ ap (λ (rest : List ℕ). spelled page ++ rest) (append-nil (line_bytes line))

spelled-more : {A : Type 0} (words : A → List (List ℕ)) (first : ℕ) (items : List A) (i : ℕ) (item : A) → i < length items → item ≡ get_or items i item
    → spelled (indexed_lines words first (take (i + 1) items)) ≡ spelled (indexed_lines words first (take i items)) ++ line_bytes (decimal (first + i) ∷ words item)
spelled-more {A} words first items i item low here =
    let whole : take (i + 1) items ≡ take i items ++ item ∷ [] = take_more items i item low ∙ ap (λ (x : A). take i items ++ x ∷ []) (sym here) in
    let count : first + length (take i items) ≡ first + i = omega (arith, length-take i items) in
    let before = indexed_lines words first (take i items) in
    ap (λ (xs : List A). spelled (indexed_lines words first xs)) whole
    ∙ ap spelled (indexed_lines-push words first (take i items) item)
    ∙ spelled-push before (decimal (first + length (take i items)) ∷ words item)
    ∙ ap (λ (k : ℕ). spelled before ++ line_bytes (decimal k ∷ words item)) count

-- what was printed, with the line of one more item after it
pub next_line : {A : Type 0} (words : A → List (List ℕ)) (first index : ℕ) (items : List A) (i : ℕ) (item : A) (start before after : List ℕ) → i < length items → item ≡ get_or items i item
    → before ≡ start ++ spelled (indexed_lines words first (take i items)) → index ≡ first + i → after ≡ before ++ line_bytes (decimal index ∷ words item)
    → after ≡ start ++ spelled (indexed_lines words first (take (i + 1) items))
next_line words first index items i item start before after low here so_far number line =
    let done = spelled (indexed_lines words first (take i items)) in
    let new = line_bytes (decimal (first + i) ∷ words item) in
    line ∙ ap (λ (k : ℕ). before ++ line_bytes (decimal k ∷ words item)) number ∙ ap (λ (x : List ℕ). x ++ new) so_far ∙ append_assoc start done new ∙ ap (λ (x : List ℕ). start ++ x) (sym (spelled-more words first items i item low here))

indexed_lines-map : {A B : Type 0} (words : B → List (List ℕ)) (f : A → B) (index : ℕ) (items : List A) → indexed_lines words index (map f items) ≡ indexed_lines (λ x. words (f x)) index items
indexed_lines-map words f index [] = refl
indexed_lines-map words f index (x ∷ items) = ap (λ rest. (decimal index ∷ words (f x)) ∷ rest) (indexed_lines-map words f (index + 1) items)

counted_lines-map : {A B : Type 0} (title : List ℕ) (words : B → List (List ℕ)) (f : A → B) (index : ℕ) (items : List A) → counted_lines title words index (map f items) ≡ counted_lines title (λ x. words (f x)) index items
counted_lines-map title words f index items =
    ap (λ (k : ℕ). (title ∷ decimal k ∷ []) ∷ indexed_lines words index (map f items)) (length-map items f)
    ∙ ap (λ page. (title ∷ decimal (length items) ∷ []) ∷ page) (indexed_lines-map words f index items)

-- four pieces, one after the other
four_pieces : (start a b c d one two three four : List ℕ) → one ≡ start ++ a → two ≡ one ++ b → three ≡ two ++ c → four ≡ three ++ d → four ≡ start ++ (a ++ (b ++ (c ++ d)))
four_pieces start a b c d one two three four e1 e2 e3 e4 = rw (e4, e3, e2, e1) (simp append_assoc)

-- the bytes of a block with a proof
closed_bytes : (signature : SignatureData) (constants : List Constant) (name : List ℕ) (proof : Proof) →
    line_bytes (codes "goal" ∷ name ∷ codes "closed" ∷ []) ++ (spelled (counted_lines (codes "terms") (node_words signature constants) 0 proof.terms.nodes)
    ++ (spelled (counted_lines (codes "branches") branch_words 1 proof.branches) ++ spelled (counted_lines (codes "lines") line_words 0 proof.lines)))
    ≡ block_bytes (Closed name (raw_of signature constants proof))
closed_bytes signature constants name proof =
    let title = line_bytes (codes "goal" ∷ name ∷ codes "closed" ∷ []) in
    let terms = counted_lines (codes "terms") term_words 0 (map (term_of signature constants) proof.terms.nodes) in
    let branches = counted_lines (codes "branches") branch_words 1 proof.branches in
    let lines = counted_lines (codes "lines") line_words 0 proof.lines in
    let named : counted_lines (codes "terms") (node_words signature constants) 0 proof.terms.nodes ≡ terms = sym (counted_lines-map (codes "terms") term_words (term_of signature constants) 0 proof.terms.nodes) in
    ap (λ page. title ++ (spelled page ++ (spelled branches ++ spelled lines))) named
    ∙ ap (λ (bytes : List ℕ). title ++ (spelled terms ++ bytes)) (sym (flat_map-append line_bytes branches lines))
    ∙ ap (λ (bytes : List ℕ). title ++ bytes) (sym (flat_map-append line_bytes terms (branches ++ lines)))

-- a block with a proof, as it is printed: its title, its terms, its branches, its lines
pub closed_put : (signature : SignatureData) (constants : List Constant) (name : List ℕ) (proof : Proof) (start one two three four : List ℕ) →
    one ≡ start ++ line_bytes (codes "goal" ∷ name ∷ codes "closed" ∷ [])
    → two ≡ one ++ spelled (counted_lines (codes "terms") (node_words signature constants) 0 proof.terms.nodes)
    → three ≡ two ++ spelled (counted_lines (codes "branches") branch_words 1 proof.branches)
    → four ≡ three ++ spelled (counted_lines (codes "lines") line_words 0 proof.lines)
    → four ≡ start ++ block_bytes (Closed name (raw_of signature constants proof))
closed_put signature constants name proof start one two three four e1 e2 e3 e4 =
    four_pieces start (line_bytes (codes "goal" ∷ name ∷ codes "closed" ∷ [])) (spelled (counted_lines (codes "terms") (node_words signature constants) 0 proof.terms.nodes))
    (spelled (counted_lines (codes "branches") branch_words 1 proof.branches)) (spelled (counted_lines (codes "lines") line_words 0 proof.lines)) one two three four e1 e2 e3 e4
    ∙ ap (λ (bytes : List ℕ). start ++ bytes) (closed_bytes signature constants name proof)
