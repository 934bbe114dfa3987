pub mod Laws
pub mod Airtimes
pub mod Chances
pub mod Margins
pub mod Order
pub mod Shipped
pub mod Same
pub mod Products
