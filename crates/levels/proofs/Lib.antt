pub mod Laws
pub mod PartyCode
