-- Domains read beforehand, code by code.
use Rattle.std.proofs.Common.{◌≡◌, ℕ, suc, ◌+◌, ◌-◌, ◌<◌, ◌==◌, ◌||◌, not, nat_lt, if◌then◌else◌, Bool, true, false, Option, Some, None, List, [], ◌∷◌, length, refl, sym, ap, subst, ◌∙◌, arith}
use Rattle.std.specs.Prelude.{codes}
use Rattle.std.proofs.lemmas.Bool.Decides.{nat_tests}
use Rattle.std.proofs.lemmas.Grind.{common_steps}
use Rattle.std.proofs.lemmas.Bool.{not-true}
use Rattle.markdown_content.specs.Codes.{Code}
use Rattle.markdown_content.specs.Place.{Place, ahead_at, code_at, moved, point_of}
use Rattle.markdown_event.specs.declared.event.Point.{Point}
use Rattle.markdown_content.proofs.PlaceRules.{IsAhead, ahead_none, ahead_some, at_moved, end_moved, point_ahead}
use Rattle.markdown_model.specs.GfmAutolinkLiteral.{is_other, is_domain_code, domain_from}
use Rattle.markdown_leaf_gfm.specs.Trails.{trails_in}
use Rattle.markdown_util.specs.Neighbours.{class_of, after_index}
use Rattle.markdown_plan.specs.ByteTests.{among_values}
use Rattle.markdown_plan.specs.Characters.{IsText, later_value}
use Rattle.markdown_plan.proofs.CharactersAlongContent.{text-moved}
use Rattle.markdown_leaf_gfm.specs.GfmAutolinkLiteral.{trail_value}
use Rattle.markdown_leaf_gfm.specs.DomainOutlook.{is_barred}
use Rattle.markdown_leaf_gfm.specs.DomainScans.{goes_on, domain_at, behind_code, barred_in, barred_by, ReachesOver}
use Rattle.markdown_leaf_gfm.specs.declared.domain_outlook.Outlook.{Outlook}
use Rattle.markdown_leaf_gfm.proofs.GfmAutolinkLiteralAddressLaws.{code-by, mark-by}
use Rattle.markdown_leaf_gfm.proofs.TrailChecks.{trails-mark}
use Rattle.markdown_leaf_gfm.proofs.DomainParts.{plain-is, front-barred, barred-past}

-- One code.

module _ (bytes : List ℕ) (p : Place) (v : ℕ) (here : code_at p ≡ Some v) where
  abbrev at : IsAhead p v
  at = ahead_some p v here

  pub go-mark : among_values (codes "._") v ≡ true →
      goes_on bytes p ≡ not (trails_in bytes p.end.index None (ahead_at p))
  go-mark h =
      ap (is_domain_code bytes p.end.index) at.codes
      ∙ mark-by bytes p.end.index at.code (ahead_at (moved p)) (ap (among_values (codes "._")) at.value ∙ h)
      ∙ ap (λ cs. not (trails_in bytes p.end.index None cs)) (sym at.codes)

  pub go-plain : among_values (codes "._") v ≡ false →
      goes_on bytes p ≡ ((v == 45 || later_value v) || is_other (class_of (after_index bytes (point_of p).index)))
  go-plain h =
      ap (is_domain_code bytes p.end.index) at.codes
      ∙ code-by bytes p.end.index at.code (ahead_at (moved p)) (ap (among_values (codes "._")) at.value ∙ h)
      ∙ ap (λ w. (w == 45 || later_value w) || is_other (class_of (after_index bytes at.code.start.index))) at.value
      ∙ ap (λ (q : Point). (v == 45 || later_value v) || is_other (class_of (after_index bytes q.index))) (sym (point_ahead p at.code (ahead_at (moved p)) at.codes))

  first-by : (end : ℕ) (c : Code) (cs : List Code) → is_domain_code bytes end (c ∷ cs) ≡ true →
      (domain_from bytes end (c ∷ cs)).0 ≡ c ∷ (domain_from bytes end cs).0
  first-by end c cs e =
      ap (λ b. (elim b as (λ _. List Code × List Code) [ true ↦ (c ∷ (domain_from bytes end cs).0, (domain_from bytes end cs).1) | false ↦ ([], c ∷ cs) ]).0) e

  -- the codes of a domain, the first and the others
  pub domain-past : goes_on bytes p ≡ true → domain_at bytes p ≡ at.code ∷ domain_at bytes (moved p)
  domain-past e =
      ap (λ cs. (domain_from bytes p.end.index cs).0) at.codes
      ∙ first-by p.end.index at.code (ahead_at (moved p)) (ap (is_domain_code bytes p.end.index) (sym at.codes) ∙ e)
      ∙ ap (λ (q : Point). at.code ∷ (domain_from bytes q.index (ahead_at (moved p))).0) (sym (end_moved p))

  -- behind a mark no trail begins either
  pub mark-past : among_values (codes "._") v ≡ true → trails_in bytes p.end.index None (ahead_at p) ≡ false →
      trails_in bytes (moved p).end.index None (ahead_at (moved p)) ≡ false
  mark-past h e =
      ap (λ (q : Point). trails_in bytes q.index None (ahead_at (moved p))) (end_moved p)
      ∙ sym (trails-mark bytes p.end.index at.code (ahead_at (moved p)) (ap trail_value at.value ∙ marks-trail v h))
      ∙ ap (trails_in bytes p.end.index None) (sym at.codes)
      ∙ e
    where
      marks-trail : (w : ℕ) → among_values (codes "._") w ≡ true → trail_value w ≡ true
      marks-trail w k = grind (arith, nat_tests)

none-by : (bytes : List ℕ) (end : ℕ) (cs : List Code) → is_domain_code bytes end cs ≡ false →
    (domain_from bytes end cs).0 ≡ []
none-by bytes end [] e = refl
none-by bytes end (c ∷ cs) e =
    ap (λ b. (elim b as (λ _. List Code × List Code) [ true ↦ (c ∷ (domain_from bytes end cs).0, (domain_from bytes end cs).1) | false ↦ ([], c ∷ cs) ]).0) e

pub domain-none : (bytes : List ℕ) (p : Place) → goes_on bytes p ≡ false → domain_at bytes p ≡ []
domain-none bytes p e = none-by bytes p.end.index (ahead_at p) e

domain-end : (bytes : List ℕ) (p : Place) → code_at p ≡ None → domain_at bytes p ≡ []
domain-end bytes p h = ap (λ cs. (domain_from bytes p.end.index cs).0) (ahead_none p h)

-- What is asked for where a domain goes on.

pub code-some : (b : Bool) (o : Option ℕ) (v : ℕ) → (if b then o else None) ≡ Some v → (b ≡ true) × (o ≡ Some v)
code-some true o v e = (refl, e)
code-some false o v e = cc

pub code-none : (bytes : List ℕ) (p : Place) → (if goes_on bytes p then code_at p else None) ≡ None →
    domain_at bytes p ≡ []
code-none bytes p e = by_test (goes_on bytes p) refl e
  where
    by_test : (b : Bool) → goes_on bytes p ≡ b → (if b then code_at p else None) ≡ None → domain_at bytes p ≡ []
    by_test true h k = domain-end bytes p k
    by_test false h k = domain-none bytes p h

-- Along a domain.

-- what was read up to a place, and what is ahead of it, is what there is
pub record DomainSoFar (bytes : List ℕ) (start p : Place) (barred dots : ℕ) (behind : Bool) : Type 0 where
  pub text : IsText bytes p
  pub long : p.at + length (domain_at bytes p) ≡ start.at + length (domain_at bytes start)
  pub found : barred_by p.at barred dots (domain_at bytes p) ≡ barred_by start.at 0 0 (domain_at bytes start)
  pub mark : behind ≡ true → trails_in bytes p.end.index None (ahead_at p) ≡ false

pub reading-start : (bytes : List ℕ) (start p : Place) → p ≡ start → IsText bytes start →
    DomainSoFar bytes start p 0 0 false
reading-start bytes start p e text =
    subst (λ (q : Place). DomainSoFar bytes start q 0 0 false) (sym e) (record { text = text; long = refl; found = refl; mark = λ h. cc })

pub reading-on : (bytes : List ℕ) (start p q : Place) (v barred dots : ℕ) (behind next : Bool) → code_at p ≡ Some v →
    goes_on bytes p ≡ true → q ≡ moved p → next ≡ among_values (codes "._") v →
    DomainSoFar bytes start p barred dots behind →
    DomainSoFar bytes start q (behind_code v q.at barred dots).0 (behind_code v q.at barred dots).1 next
reading-on bytes start p q v barred dots behind next here goes e mark k =
    subst (λ (x : Place). DomainSoFar bytes start x (behind_code v x.at barred dots).0 (behind_code v x.at barred dots).1 next) (sym e)
    (record {
      text = text-moved bytes p k.text;
      long = omega (arith, at_moved p, ap length past, k.long);
      found = sym (sym k.found ∙ ap (barred_by p.at barred dots) past ∙ ap (λ w. more w (suc p.at)) a.value ∙ ap (more v) step);
      mark = λ h. mark-past bytes p v here (sym mark ∙ h) (not-true _ (sym (go-mark bytes p v here (sym mark ∙ h)) ∙ goes));
    })
  where
    a : IsAhead p v
    a = ahead_some p v here

    past : domain_at bytes p ≡ a.code ∷ domain_at bytes (moved p)
    past = domain-past bytes p v here goes

    more : ℕ → ℕ → ℕ
    more w n = barred_by n (behind_code w n barred dots).0 (behind_code w n barred dots).1 (domain_at bytes (moved p))

    step : suc p.at ≡ (moved p).at
    step = omega (arith, at_moved p)

pub reading-long : (bytes : List ℕ) (start p : Place) (barred dots : ℕ) (behind : Bool) → domain_at bytes p ≡ [] →
    DomainSoFar bytes start p barred dots behind → p.at ≡ start.at + length (domain_at bytes start)
reading-long bytes start p barred dots behind none k = omega (arith, ap length none, k.long)

pub reading-found : (bytes : List ℕ) (start p : Place) (barred dots : ℕ) (behind : Bool) → domain_at bytes p ≡ [] →
    DomainSoFar bytes start p barred dots behind →
    (if nat_lt dots 2 then barred else 0) ≡ barred_by start.at 0 0 (domain_at bytes start)
reading-found bytes start p barred dots behind none k = ap (barred_by p.at barred dots) (sym none) ∙ k.found

-- What is known of the domain over a place.

pub reaches-nothing : (bytes : List ℕ) (p : Place) (o : Outlook) → o.end ≡ 0 → ReachesOver bytes p o
reaches-nothing bytes p o e =
    record { ends = λ h. absurd (omega (arith, e, h)); bars = λ h. absurd (omega (arith, e, h)) }

pub reaches-read : (bytes : List ℕ) (p : Place) (o : Outlook) → o.end ≡ p.at + length (domain_at bytes p) →
    o.barred ≡ barred_by p.at 0 0 (domain_at bytes p) → ReachesOver bytes p o
reaches-read bytes p o e h =
    record { ends = λ _. e; bars = λ _. ap (λ n. n - p.at) h ∙ front-barred (domain_at bytes p) p.at }

reaches-moved : (bytes : List ℕ) (p : Place) (v : ℕ) (o : Outlook) → code_at p ≡ Some v → ReachesOver bytes p o →
    ReachesOver bytes (moved p) o
reaches-moved bytes p v o here k = by_test (goes_on bytes p) refl
  where
    by_test : (b : Bool) → goes_on bytes p ≡ b → ReachesOver bytes (moved p) o
    by_test true goes =
        let a : IsAhead p v = ahead_some p v here in
        let past : domain_at bytes p ≡ a.code ∷ domain_at bytes (moved p) = domain-past bytes p v here goes in
        record {
          ends = λ h. omega (arith, k.ends (omega (arith, h, at_moved p)), ap length past, at_moved p);
          bars = λ h. omega (arith, k.bars (omega (arith, h, at_moved p)), ap barred_in past, barred-past a.code (domain_at bytes (moved p)), at_moved p);
        }
    by_test false goes =
        let none : length (domain_at bytes p) ≡ 0 = ap length (domain-none bytes p goes) in
        record {
          ends = λ h. absurd (omega (arith, k.ends (omega (arith, h, at_moved p)), none, h, at_moved p));
          bars = λ h. absurd (omega (arith, k.ends (omega (arith, h, at_moved p)), none, h, at_moved p));
        }

pub reaches-past : (bytes : List ℕ) (p q : Place) (v : ℕ) (o : Outlook) → code_at p ≡ Some v → q ≡ moved p →
    ReachesOver bytes p o → ReachesOver bytes q o
reaches-past bytes p q v o here e k =
    subst (λ (x : Place). ReachesOver bytes x o) (sym e) (reaches-moved bytes p v o here k)

-- it says whether the place is barred
less-by : (n at b : ℕ) → n - at ≡ b → nat_lt 0 b ≡ nat_lt at n
less-by n at b e = grind (arith, nat_tests, common_steps, e)

pub barred-known : (bytes : List ℕ) (p : Place) (o : Outlook) → p.at < o.end → ReachesOver bytes p o →
    is_barred bytes p.end.index (ahead_at p) ≡ nat_lt p.at o.barred
barred-known bytes p o h k =
    plain-is (domain_at bytes p) ∙ less-by o.barred p.at (barred_in (domain_at bytes p)) (k.bars h)

pub barred-read : (bytes : List ℕ) (p : Place) (o : Outlook) → o.barred ≡ barred_by p.at 0 0 (domain_at bytes p) →
    is_barred bytes p.end.index (ahead_at p) ≡ nat_lt p.at o.barred
barred-read bytes p o h =
    plain-is (domain_at bytes p) ∙ less-by o.barred p.at (barred_in (domain_at bytes p)) (ap (λ n. n - p.at) h ∙ front-barred (domain_at bytes p) p.at)
