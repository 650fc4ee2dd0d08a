-- What a walk of a program makes, each kind in the order in which it makes it, and the numbers that go on from there.
use Rattle.std.specs.Prelude.{ℕ, ◌+◌, List, [], ◌∷◌, ◌++◌, length}
use Rattle.zl_meaning.specs.declared.block.Block.{Block}
use Rattle.zl_meaning.specs.declared.block.Choice.{Choice}
use Rattle.zl_meaning.specs.declared.block.Auto.{Auto}
use Rattle.zl_meaning.specs.declared.place.PlaceInfo.{PlaceInfo}
use Rattle.zl_meaning.specs.declared.occurrence.Occ.{Occ}
use Rattle.zl_meaning.specs.declared.occurrence.SiteInfo.{SiteInfo}
use Rattle.zl_flat.specs.declared.given.Given.{Given}

-- `hidden` are the occurrences that no token has: the event of a condition, the `pre` of a `fby`. The definers stand apart
-- from the places that they define.
pub record Parts : Type 0 where
  pub blocks : List Block
  pub places : List PlaceInfo
  pub definers : List Given
  pub occs : List Occ
  pub hidden : List Occ
  pub sites : List SiteInfo
  pub choices : List Choice
  pub automata : List Auto

unfoldable pub nothing : Parts
nothing = record { blocks = []; places = []; definers = []; occs = []; hidden = []; sites = []; choices = []; automata = [] }

-- what one walk makes, and then what another makes
unfoldable pub joined : Parts → Parts → Parts
joined p q = record {
  blocks = p.blocks ++ q.blocks;
  places = p.places ++ q.places;
  definers = p.definers ++ q.definers;
  occs = p.occs ++ q.occs;
  hidden = p.hidden ++ q.hidden;
  sites = p.sites ++ q.sites;
  choices = p.choices ++ q.choices;
  automata = p.automata ++ q.automata;
}

-- ---- one of a kind

unfoldable pub one_block : Block → Parts
one_block x = record { blocks = x ∷ []; places = []; definers = []; occs = []; hidden = []; sites = []; choices = []; automata = [] }

unfoldable pub one_place : PlaceInfo → Parts
one_place x = record { blocks = []; places = x ∷ []; definers = []; occs = []; hidden = []; sites = []; choices = []; automata = [] }

unfoldable pub some_places : List PlaceInfo → Parts
some_places xs = record { blocks = []; places = xs; definers = []; occs = []; hidden = []; sites = []; choices = []; automata = [] }

unfoldable pub some_definers : List Given → Parts
some_definers xs = record { blocks = []; places = []; definers = xs; occs = []; hidden = []; sites = []; choices = []; automata = [] }

unfoldable pub one_occ : Occ → Parts
one_occ x = record { blocks = []; places = []; definers = []; occs = x ∷ []; hidden = []; sites = []; choices = []; automata = [] }

unfoldable pub one_hidden : Occ → Parts
one_hidden x = record { blocks = []; places = []; definers = []; occs = []; hidden = x ∷ []; sites = []; choices = []; automata = [] }

unfoldable pub one_site : SiteInfo → Parts
one_site x = record { blocks = []; places = []; definers = []; occs = []; hidden = []; sites = x ∷ []; choices = []; automata = [] }

unfoldable pub one_choice : Choice → Parts
one_choice x = record { blocks = []; places = []; definers = []; occs = []; hidden = []; sites = []; choices = x ∷ []; automata = [] }

unfoldable pub one_automaton : Auto → Parts
one_automaton x = record { blocks = []; places = []; definers = []; occs = []; hidden = []; sites = []; choices = []; automata = x ∷ [] }

-- ---- numbers

-- the next number of each kind
pub record Counters : Type 0 where
  pub blocks : ℕ
  pub places : ℕ
  pub occs : ℕ
  pub hidden : ℕ
  pub sites : ℕ
  pub choices : ℕ
  pub automata : ℕ

abbrev pub start : Counters
start = record { blocks = 0; places = 0; occs = 0; hidden = 0; sites = 0; choices = 0; automata = 0 }

-- the numbers behind these parts
unfoldable pub after : Counters → Parts → Counters
after s p = record {
  blocks = s.blocks + length p.blocks;
  places = s.places + length p.places;
  occs = s.occs + length p.occs;
  hidden = s.hidden + length p.hidden;
  sites = s.sites + length p.sites;
  choices = s.choices + length p.choices;
  automata = s.automata + length p.automata;
}

-- the numbers behind one more of a kind, of which it isn't known yet what it is
unfoldable pub past_block : Counters → Counters
past_block s = record { blocks = s.blocks + 1; places = s.places; occs = s.occs; hidden = s.hidden; sites = s.sites; choices = s.choices; automata = s.automata }

unfoldable pub past_occ : Counters → Counters
past_occ s = record { blocks = s.blocks; places = s.places; occs = s.occs + 1; hidden = s.hidden; sites = s.sites; choices = s.choices; automata = s.automata }

unfoldable pub past_hidden : Counters → Counters
past_hidden s = record { blocks = s.blocks; places = s.places; occs = s.occs; hidden = s.hidden + 1; sites = s.sites; choices = s.choices; automata = s.automata }

unfoldable pub past_site : Counters → Counters
past_site s = record { blocks = s.blocks; places = s.places; occs = s.occs; hidden = s.hidden; sites = s.sites + 1; choices = s.choices; automata = s.automata }

unfoldable pub past_choice : Counters → Counters
past_choice s = record { blocks = s.blocks; places = s.places; occs = s.occs; hidden = s.hidden; sites = s.sites; choices = s.choices + 1; automata = s.automata }

unfoldable pub past_automaton : Counters → Counters
past_automaton s = record { blocks = s.blocks; places = s.places; occs = s.occs; hidden = s.hidden; sites = s.sites; choices = s.choices; automata = s.automata + 1 }
