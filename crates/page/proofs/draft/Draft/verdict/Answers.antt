use Rattle.std.proofs.Common.{rules, tests}
use Rattle.page.specs.Sheets.{sheet_of}
use Rattle.page.specs.Judging.{CharactersAt, WordsAt, LineAt}
use Rattle.page.proofs.Verdicts.{all_fit, first_fault}
use Rattle.page.proofs.draft.Draft.verdict.Goals as goal

pub returns-in-Some : goal.returns-in-Some
returns-in-Some c =
    (c.is_rooted.ensures.0 c.if-not-is_rooted.false, first_fault CharactersAt (sheet_of c.args.self.now) c.first_fault.ensures (λ k b a. search (rules, tests)) c.in-Some.run' c.in-Some.is)

pub returns-in-Some-first_fault : goal.returns-in-Some-first_fault
returns-in-Some-first_fault c = (
  c.is_rooted.ensures.0 c.if-not-is_rooted.false,
  all_fit CharactersAt (sheet_of c.args.self.now) c.first_fault.ensures (λ k b a. search (rules, tests)) c.in_default.is,
  first_fault WordsAt (sheet_of c.args.self.now) c.first_fault-2.ensures (λ k b a. search (rules, tests)) c.in-Some-first_fault.run' c.in-Some-first_fault.is,
)

pub returns-in-Some-first_fault-2 : goal.returns-in-Some-first_fault-2
returns-in-Some-first_fault-2 c = (
  c.is_rooted.ensures.0 c.if-not-is_rooted.false,
  all_fit CharactersAt (sheet_of c.args.self.now) c.first_fault.ensures (λ k b a. search (rules, tests)) c.in_default.is,
  all_fit WordsAt (sheet_of c.args.self.now) c.first_fault-2.ensures (λ k b a. search (rules, tests)) c.in_default-first_fault.is,
  first_fault LineAt (sheet_of c.args.self.now) c.first_fault-3.ensures (λ k b a. search (rules, tests)) c.in-Some-first_fault-2.run' c.in-Some-first_fault-2.is,
)

pub returns : goal.returns
returns c = record {
  rooted = c.is_rooted.ensures.0 c.if-not-is_rooted.false;
  characters = all_fit CharactersAt (sheet_of c.args.self.now) c.first_fault.ensures (λ k b a. search (rules, tests)) c.in_default.is;
  words = all_fit WordsAt (sheet_of c.args.self.now) c.first_fault-2.ensures (λ k b a. search (rules, tests)) c.in_default-first_fault.is;
  lines = all_fit LineAt (sheet_of c.args.self.now) c.first_fault-3.ensures (λ k b a. search (rules, tests)) c.in_default-first_fault-2.is;
}
